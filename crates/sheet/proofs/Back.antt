-- "Two sheets over the same faces are equal only if their lists and their last words are": a sheet's lines are read back, from the last.
use Prim.Native.Nat.{ℕ, zero, suc, ◌+◌, ◌-◌, ◌%◌, ◌<◌, ◌≤◌}
use native.Mathlib.Omega.{arith}
use mathlib.Core.Path.{◌≡◌, refl, sym, ap, ◌∙◌}
use mathlib.Core.Bool.{Bool, true, false, cond}
use mathlib.Core.List.{List, [], ◌∷◌, ◌++◌, map, append_assoc, append-nil}
use lib.Dec.{eqb, ltb}
use lib.ListN.{length, get_or, take, drop, replicate, take-append-drop}
use borrow.Author.Tests.{lt-ltb, le-ltb, ne_eqb}
use Rattle.table_format.proofs.All.{All, all_map}
use Rattle.faces.specs.Faces.{faces_hold, face_of}
use Rattle.faces.specs.Lent.{most_readings, readings_hold}
use Rattle.faces.proofs.Lent.{IsLetter}
use Rattle.faces.proofs.Faces.{face_printable, face-tells}
use Rattle.sheet_lines.specs.Lines.{columns, lead_columns, row_letters, filled, ordinal_columns, rows_of, first_line, next_line, reading_lines, joined}
use Rattle.sheet.specs.Sheet.{last_word, list_lines, sheet_lines, sheet_of}
use Rattle.sheet_lines.proofs.Lists.{all_take, all_drop, map_same}
use Rattle.sheet_lines.proofs.Rows.{rows-joined}
use Rattle.sheet_lines.proofs.Lines.{rows_all, joined_same}
use Rattle.sheet.proofs.Sheet.{line_72}
use Rattle.faces.proofs.Facts.{readings-are}

-- Reading back.

abbrev Visible : ℕ → Type 0
Visible c = 33 ≤ c

-- the characters before the first blank
abbrev word_in : List ℕ → List ℕ
word_in [] = []
word_in (c ∷ cs) = cond (ltb c 33) [] (c ∷ word_in cs)

-- the lines after a place: what goes on there of a reading begun before, the readings that begin there, and the last word
record Back : Type 0 where
  pending : List ℕ
  readings : List (List ℕ)
  ended : Bool

-- a line with no blank in column 1 is the last, and one with a blank in column 5 goes on with a reading
abbrev step : List ℕ → Back → Back
step l b =
    cond (eqb (get_or l 0 0) 32)
    (cond (eqb (get_or l 4 0) 32)
    (record { pending = word_in (drop lead_columns l) ++ b.pending; readings = b.readings; ended = b.ended })
    (record { pending = []; readings = (word_in (drop lead_columns l) ++ b.pending) ∷ b.readings; ended = b.ended }))
    (record { pending = []; readings = []; ended = eqb (get_or l 0 0) 69 })

abbrev back : List (List ℕ) → Back
back [] = record { pending = []; readings = []; ended = false }
back (l ∷ ls) = step l (back ls)

word_none : (n : ℕ) → word_in (replicate n 32 ++ (10 ∷ [])) ≡ []
word_none zero = refl
word_none (suc n) = refl

word_back : (r : List ℕ) (n : ℕ) → All Visible r → word_in (r ++ (replicate n 32 ++ (10 ∷ []))) ≡ r
word_back [] n h = word_none n
word_back (c ∷ r) n h = rw (le-ltb c 33 h.0) (ap (λ (l : List ℕ). c ∷ l) (word_back r n h.1))

rows_back : (rs ls : List (List ℕ)) → All (All Visible) rs
    → back (map next_line rs ++ ls) ≡ record { pending = joined rs ++ (back ls).pending; readings = (back ls).readings; ended = (back ls).ended }
unfolding next_line filled
rows_back [] ls h = refl
rows_back (r ∷ rs) ls h =
    let b = back ls in
    ap (step (next_line r)) (rows_back rs ls h.1)
    ∙ ap (λ (p : List ℕ). record { pending = p; readings = b.readings; ended = b.ended })
    (ap (λ (l : List ℕ). l ++ (joined rs ++ b.pending)) (word_back r (columns - length (replicate lead_columns 32 ++ r)) h.0)
    ∙ sym (append_assoc r (joined rs) b.pending))

-- a reading's first line has a blank in column 1, as its ordinal is below 10,000, and a digit in column 5
first_back : (k : ℕ) (cs : List ℕ) (b : Back) → k < 10000 → All Visible cs
    → step (first_line k cs) b ≡ record { pending = []; readings = (take row_letters cs ++ b.pending) ∷ b.readings; ended = b.ended }
unfolding first_line filled
first_back k cs b h v =
    let row = take row_letters cs in
    let word = word_back row (columns - length (ordinal_columns k ++ (32 ∷ row))) (all_take Visible row_letters cs v) in
    rw (lt-ltb k 10000 h, ne_eqb (48 + k % 10) 32 (λ e. omega arith), word)

reading-back : (k : ℕ) (cs : List ℕ) (ls : List (List ℕ)) → k < 10000 → All Visible cs
    → back (reading_lines k cs ++ ls) ≡ record { pending = []; readings = (cs ++ (back ls).pending) ∷ (back ls).readings; ended = (back ls).ended }
unfolding reading_lines
reading-back k cs ls h v =
    let b = back ls in
    let rest = drop row_letters cs in
    ap (step (first_line k cs)) (rows_back (rows_of rest) ls (rows_all Visible rest (all_drop Visible row_letters cs v)))
    ∙ first_back k cs _ h v
    ∙ ap (λ (p : List ℕ). record { pending = []; readings = p ∷ b.readings; ended = b.ended }) (whole b.pending)
  where
    whole : (after : List ℕ) → take row_letters cs ++ (joined (rows_of (drop row_letters cs)) ++ after) ≡ cs ++ after
    whole after =
        ap (λ (l : List ℕ). take row_letters cs ++ (l ++ after)) (rows-joined (drop row_letters cs))
        ∙ sym (append_assoc (take row_letters cs) (drop row_letters cs) after)
        ∙ ap (λ (l : List ℕ). l ++ after) (take-append-drop row_letters cs)

module _ (faces : List ℕ) (holds : faces_hold faces ≡ true) where
  -- the lines after the opening line
  list_back : (k : ℕ) (ws : List (List ℕ)) (ended : Bool) → k + length ws ≤ 10000 → All (All IsLetter) ws
      → back (list_lines faces k ws ++ (filled (last_word ended) ∷ [])) ≡ record { pending = []; readings = map (map (face_of faces)) ws; ended = ended }
  unfolding filled
  list_back k [] true h v = refl
  list_back k [] false h v = refl
  list_back k (w ∷ ws) ended h v =
      let cs = map (face_of faces) w in
      let after = list_lines faces (suc k) ws ++ (filled (last_word ended) ∷ []) in
      ap back (append_assoc (reading_lines k cs) (list_lines faces (suc k) ws) (filled (last_word ended) ∷ []))
      ∙ reading-back k cs after (omega arith) (all_map IsLetter Visible (face_of faces) (λ x l. (face_printable faces holds x l).0) w v.0)
      ∙ ap (λ (b : Back). record { pending = []; readings = (cs ++ b.pending) ∷ b.readings; ended = b.ended }) (list_back (suc k) ws ended (omega arith) v.1)
      ∙ ap (λ (p : List ℕ). record { pending = []; readings = p ∷ map (map (face_of faces)) ws; ended = ended }) (append-nil cs)

  pub sheet_injective : (a b : List (List ℕ)) (e g : Bool) → readings_hold a ≡ true → readings_hold b ≡ true
      → sheet_of faces a e ≡ sheet_of faces b g → (a ≡ b) × (e ≡ g)
  unfolding sheet_of
  sheet_injective a b e g p q same = (
    map_same (All IsLetter) (map (face_of faces)) (map_same IsLetter (face_of faces) (face-tells faces holds)) a b va.1 vb.1 (ap (λ (x : Back). x.readings) read),
    ap (λ (x : Back). x.ended) read,
  )
    where
      va : (length a ≤ most_readings) × All (All IsLetter) a
      va = (readings-are a).0 p

      vb : (length b ≤ most_readings) × All (All IsLetter) b
      vb = (readings-are b).0 q

      lines : sheet_lines faces a e ≡ sheet_lines faces b g
      lines = joined_same (sheet_lines faces a e) (sheet_lines faces b g) (line_72 faces a e) (line_72 faces b g) same

      read : ◌≡◌ {A = Back} (record { pending = []; readings = map (map (face_of faces)) a; ended = e }) (record { pending = []; readings = map (map (face_of faces)) b; ended = g })
      read =
          sym (list_back 1 a e (omega (arith, va.0)) va.1)
          ∙ ap (λ (ls : List (List ℕ)). back (drop 1 ls)) lines
          ∙ list_back 1 b g (omega (arith, vb.0)) vb.1
