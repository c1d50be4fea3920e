-- What a sheet that ends with END tells, and that sheets of words with different ways differ.
use Prim.Native.Nat.{ℕ, suc, ◌+◌, ◌<◌}
use native.Mathlib.Omega.{arith}
use mathlib.Core.Path.{◌≡◌, refl, sym, ap, ap₂, subst, ◌∙◌}
use mathlib.Core.Logic.{◌⊎◌, inl, inr}
use mathlib.Core.Bool.{Bool, true, false}
use mathlib.Core.List.{List, [], ◌∷◌, ◌++◌, map, append_assoc, map-append, Memᴰ}
use lib.ListN.{length, length-append, length-map}
use Rattle.faces.specs.Faces.{faces_hold, face_of}
use Rattle.sheet_lines.specs.Lines.{filled, reading_lines}
use Rattle.sheet_lines.specs.Lines as lines
use Rattle.sheet.specs.Sheet.{opening_word, last_word, list_lines, sheet_lines, sheet_of}
use Rattle.std.specs.Prelude.{Some}
use Rattle.sheet.specs.declared.LastWord.TheVariants.{End}
use Rattle.sheet.specs.Read.{last_word_in}
use Rattle.sheet.proofs.Headlines as sheets
use Rattle.lexicon.specs.Words.{Word, list_holds}
use Rattle.segmentation.specs.Ways.{ways_to_cut, joined, Way}
use Rattle.segmentation.proofs.Headlines as cutting
use Rattle.key_sheet.specs.Key.{Key}
use Rattle.key_ways.specs.Shows.{KeyShows}
use Rattle.key_ways.specs.Told.{OnLines, KeyTold}
use Rattle.key_ways.proofs.Ways.{reads_word}
use Rattle.key_ways.proofs.Sheets.{shows-way, readings_hold_lem}

-- the lines of a reading after others
place-lines : (faces : List ℕ) (a : List (List ℕ)) (r : List ℕ) (b : List (List ℕ)) (ended : Bool)
    → sheet_lines faces (a ++ (r ∷ b)) ended
    ≡ (filled opening_word ∷ list_lines faces 1 a) ++ (reading_lines (1 + length a) (map (face_of faces) r) ++ (list_lines faces (suc (1 + length a)) b ++ (filled (last_word ended) ∷ [])))
place-lines faces a r b ended =
    ap (λ (l : List (List ℕ)). filled opening_word ∷ (l ++ (filled (last_word ended) ∷ []))) (sheets.ordinal_place faces a r b)
    ∙ ap (λ (l : List (List ℕ)). filled opening_word ∷ l) (simp append_assoc)

map-none : (Z : List (List Word)) → [] ≡ map joined Z → Z ≡ []
map-none [] e = refl
map-none (z ∷ Z) e = absurd (let y : ◌≡◌ {A = ℕ} 0 1 = cc in omega arith)

module _ (ws : List Word) (holds : list_holds ws ≡ true) (w : Word) (k : Key) (S : KeyShows ws w k) (faces : List ℕ) (ended : S.ended ≡ true) where
  shown : (a : List (List Word)) (z : List Word) (b : List (List Word)) → ways_to_cut ws w ≡ a ++ (z ∷ b) → OnLines faces (sheet_of faces S.readings S.ended) (1 + length a) (joined z)
  unfolding sheet_of
  shown a z b e =
      let A = map joined a in
      let all : S.readings ≡ A ++ (joined z ∷ map joined b) = S.all_ways ended ∙ ap (map joined) e ∙ map-append joined a (z ∷ b) in
      let few : length A < 1000 = omega (arith, S.few, ap length all ∙ length-append A (joined z ∷ map joined b)) in
      subst (λ (n : ℕ). OnLines faces (sheet_of faces S.readings S.ended) (1 + n) (joined z)) (length-map a joined)
      (record {
        before = filled opening_word ∷ list_lines faces 1 A;
        own = reading_lines (1 + length A) (map (face_of faces) (joined z));
        after = list_lines faces (suc (1 + length A)) (map joined b) ++ (filled (last_word S.ended) ∷ []);
        is = ap (λ (l : List (List ℕ)). lines.joined (sheet_lines faces l S.ended)) all ∙ ap lines.joined (place-lines faces A (joined z) (map joined b) S.ended);
        laid = sheets.reading-laid (1 + length A) (map (face_of faces) (joined z)) (omega arith) (omega arith);
      })

  pub key-told : KeyTold (Way ws w) faces (sheet_of faces S.readings S.ended)
  key-told =
      record {
        ways = ways_to_cut ws w;
        are = cutting.ways-are ws holds w;
        once = cutting.ways-differ ws holds w;
        in_order = cutting.ways-in_order ws holds w;
        sheet-is = ap₂ (sheet_of faces) (S.all_ways ended) ended;
        shown = shown;
      }

-- a sheet that closes with END is of a run that ended
pub ended_by : (faces : List ℕ) (rs : List (List ℕ)) (ended : Bool) → last_word_in (sheet_of faces rs ended) ≡ Some End → ended ≡ true
ended_by faces rs true e = refl
ended_by faces rs false e = absurd (let f = sheets.last-told faces rs false in let z : ◌≡◌ {A = ℕ} 0 1 = cc in omega arith)

-- Two keys.

module _ (ws : List Word) (holds : list_holds ws ≡ true) (u w : Word) (k j : Key) (K : KeyShows ws u k) (J : KeyShows ws w j) where
  -- a reading tells its word
  pub same_word_lem : (r : List ℕ) → Memᴰ r K.readings → Memᴰ r J.readings → u ≡ w
  same_word_lem r m n = sym (reads_word ws holds u r (shows-way ws holds u k K r m)) ∙ reads_word ws holds w r (shows-way ws holds w j J r n)

  module _ (faces : List ℕ) (F : faces_hold faces ≡ true) (same : sheet_of faces K.readings K.ended ≡ sheet_of faces J.readings J.ended) where
    both : (K.readings ≡ J.readings) × (K.ended ≡ J.ended)
    both = sheets.sheet_injective faces F K.readings J.readings K.ended J.ended (readings_hold_lem ws holds u k K) (readings_hold_lem ws holds w j J) same

    pub same-ways : (ways_to_cut ws u ≡ ways_to_cut ws w) ⊎ ((K.readings ≡ []) × (K.ended ≡ false))
    same-ways = go K.readings K.ended refl refl
      where
        go : (rs : List (List ℕ)) (e : Bool) → K.readings ≡ rs → K.ended ≡ e → (ways_to_cut ws u ≡ ways_to_cut ws w) ⊎ ((K.readings ≡ []) × (K.ended ≡ false))
        go (r ∷ rs) e p q = inl (ap (ways_to_cut ws) (same_word_lem r (subst (λ (l : List (List ℕ)). Memᴰ r l) (sym p) (Memᴰ.head refl)) (subst (λ (l : List (List ℕ)). Memᴰ r l) (sym p ∙ both.0) (Memᴰ.head refl))))
        go [] true p q =
            inl (map-none (ways_to_cut ws u) (sym p ∙ K.all_ways q) ∙ sym (map-none (ways_to_cut ws w) (sym p ∙ both.0 ∙ J.all_ways (sym both.1 ∙ q))))
        go [] false p q = inr (p, q)
