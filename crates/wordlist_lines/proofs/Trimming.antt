-- What a line holds between blanks: that it is so, and that no other is.
use Prim.Native.Nat.{ℕ}
use mathlib.Core.Path.{◌≡◌, refl, sym, ap, subst, ◌∙◌}
use mathlib.Core.Logic.{◌⊎◌, inl, inr, ⊎_elim}
use mathlib.Core.Bool.{Bool, true, false, cond, not}
use mathlib.Core.List.Memᴰ
use mathlib.Core.List.{List, [], ◌∷◌, ◌++◌, append-nil, append_assoc, Memᴰ, nil≢cons}
use Rattle.wordlist_lines.specs.Lines.{is_blank, no_blank, in_front, unled, untrailed, trimmed}
use Rattle.wordlist_lines.specs.Facts.{Blanks, Begins, Ends, Trimmed}
use Rattle.wordlist_lines.proofs.Lines.{last-kept, last-passed}

-- At the end.

abbrev Trailing : List ℕ → List ℕ → Type 0
Trailing l kept = (z : List ℕ) × (l ≡ kept ++ z) × Blanks z × ((kept ≡ []) ⊎ Ends kept)

blanks-cons : (c : ℕ) (l : List ℕ) → is_blank c ≡ true → Blanks l → Blanks (c ∷ l)
blanks-cons c l e h d m = ⊎_elim (λ u. ap is_blank u ∙ e) (h d) (Memᴰ.cases_cons m)

untrailed-is : (l : List ℕ) → Trailing l (untrailed l)
untrailed-is [] = ([], refl, (λ c m. absurd (Memᴰ.not-nil m)), inl refl)
untrailed-is (c ∷ l) = go (untrailed l) (untrailed-is l)
  where
    -- a blank in front of blanks is one more, any other character ends the line
    alone : (z : List ℕ) → l ≡ z → Blanks z → (b : Bool) → is_blank c ≡ b → Trailing (c ∷ l) (cond (not b) (c ∷ []) [])
    alone z e h true b = (c ∷ z, ap (λ (t : List ℕ). c ∷ t) e, blanks-cons c z b h, inl refl)
    alone z e h false b = (z, ap (λ (t : List ℕ). c ∷ t) e, h, inr ([], c, refl, b))

    go : (kept : List ℕ) → Trailing l kept → Trailing (c ∷ l) (in_front no_blank c kept)
    go [] r = alone r.0 r.1 r.2 (is_blank c) refl
    go (d ∷ kept) r =
        (r.0, ap (λ (t : List ℕ). c ∷ t) r.1, r.2, ⊎_elim (λ e. absurd (nil≢cons (sym e))) (λ w. inr (c ∷ w.0, w.1, ap (λ (t : List ℕ). c ∷ t) w.2, w.3)) r.3)

-- At the front.

unled-is : (l : List ℕ) → (a : List ℕ) × (l ≡ a ++ unled l) × Blanks a
unled-is [] = ([], refl, (λ c m. absurd (Memᴰ.not-nil m)))
unled-is (c ∷ l) = go (is_blank c) refl (unled-is l)
  where
    go : (b : Bool) → is_blank c ≡ b → (a : List ℕ) × (l ≡ a ++ unled l) × Blanks a → (a : List ℕ) × (c ∷ l ≡ a ++ cond b (unled l) (c ∷ l)) × Blanks a
    go true b r = (c ∷ r.0, ap (λ (t : List ℕ). c ∷ t) r.1, blanks-cons c r.0 b r.2)
    go false b r = ([], refl, (λ d m. absurd (Memᴰ.not-nil m)))

abbrev Both : List ℕ → Type 0
Both l = Begins l × Ends l

unled-ends : (rest : List ℕ) (c : ℕ) → is_blank c ≡ false → Both (unled (rest ++ (c ∷ [])))
unled-ends [] c e = let is : unled (c ∷ []) ≡ c ∷ [] = ap (λ (b : Bool). cond b [] (c ∷ [])) e in ((c, [], is, e), ([], c, is, e))
unled-ends (d ∷ rest) c e = go (is_blank d) refl (unled-ends rest c e)
  where
    go : (b : Bool) → is_blank d ≡ b → Both (unled (rest ++ (c ∷ []))) → Both (cond b (unled (rest ++ (c ∷ []))) (d ∷ (rest ++ (c ∷ []))))
    go true b r = r
    go false b r = ((d, rest ++ (c ∷ []), refl, b), (d ∷ rest, c, refl, e))

unled-blanks : (a l : List ℕ) → Blanks a → unled (a ++ l) ≡ unled l
unled-blanks [] l h = refl
unled-blanks (c ∷ a) l h =
    ap (λ (b : Bool). cond b (unled (a ++ l)) (c ∷ (a ++ l))) (h c (Memᴰ.head refl))
    ∙ unled-blanks a l (λ d m. h d (Memᴰ.tail m))

unled-kept : (l : List ℕ) → Begins l → unled l ≡ l
unled-kept l (c, rest, is, e) = ap unled is ∙ ap (λ (b : Bool). cond b (unled rest) (c ∷ rest)) e ∙ sym is

-- Both.

pub trimmed-is : (l : List ℕ) → Trimmed l (trimmed l)
trimmed-is l =
    let r = untrailed-is l in
    let f = unled-is (untrailed l) in
    record {
      front = f.0;
      back = r.0;
      is = r.1 ∙ ap (λ (t : List ℕ). t ++ r.0) f.1 ∙ append_assoc f.0 (trimmed l) r.0;
      front-blank = f.2;
      back-blank = r.2;
      ends = ⊎_elim (λ e. inl (ap unled e)) (λ w. inr (subst (λ (t : List ℕ). Both (unled t)) (sym w.2) (unled-ends w.0 w.1 w.3))) r.3;
    }

none_kept : (z : List ℕ) → Blanks z → (c : ℕ) → Memᴰ c z → no_blank c ≡ false
none_kept z h c m = ap not (h c m)

pub trimmed-only : (l held : List ℕ) → Trimmed l held → held ≡ trimmed l
trimmed-only l held T = ⊎_elim empty (λ w. some w.0 w.1) T.ends
  where
    front : List ℕ
    front = T.front

    without : untrailed l ≡ untrailed (front ++ held)
    without = ap untrailed (T.is ∙ sym (append_assoc front held T.back)) ∙ last-passed no_blank (front ++ held) T.back (none_kept T.back T.back-blank)

    empty : held ≡ [] → held ≡ trimmed l
    empty e =
        e
        ∙ sym (ap unled
        (without
        ∙ ap (λ (t : List ℕ). untrailed (front ++ t)) e
        ∙ ap untrailed (append-nil front)
        ∙ last-passed no_blank [] front (none_kept front T.front-blank)))

    some : Begins held → Ends held → held ≡ trimmed l
    some b w =
        let is : front ++ held ≡ (front ++ w.0) ++ (w.1 ∷ []) = ap (λ (t : List ℕ). front ++ t) w.2 ∙ sym (append_assoc front w.0 (w.1 ∷ [])) in
        sym (ap unled
        (without
        ∙ ap untrailed is
        ∙ last-kept no_blank (front ++ w.0) w.1 [] (ap not w.3) refl
        ∙ sym is)
        ∙ unled-blanks front held T.front-blank
        ∙ unled-kept held b)
