-- Laws for the check of a word: its length and letters, and where it stands after another one.
use Prim.Native.Nat.{ℕ, zero, suc, ◌-◌, ◌≤◌, ◌<◌}
use native.Mathlib.Omega.{arith}
use mathlib.Core.Path.{◌≡◌, refl, sym, ap, ap₂, ◌∙◌}
use mathlib.Core.Bool.{Bool, true, false, cond, ◌&&◌, true≢false}
use mathlib.Core.List.{[], ◌∷◌}
use lib.ListN.{length, take, drop}
use lib.Dec.{eqb, ltb}
use borrow.Author.Tests.{le-leb, eqb-true, le-ltb, ltb-true, ltb-false}
use Rattle.std.specs.Prelude.{Some}
use Rattle.std.specs.Ordering.{nat_cmp, is_lt, is_some_and}
use Rattle.std.specs.Cmp.Lexicographic.{slice_partial_cmp}
use Rattle.std.proofs.lemmas.Cmp.{same_from_slice_cmp_tested}
use Rattle.std.proofs.lemmas.Bool.Decides.{nat_tests}
use Rattle.std.specs.List.{zip, list_all, take_while}
use Rattle.std.proofs.lemmas.List.{take_rest}
use Rattle.std.proofs.lemmas.List.Sums.{take_while-cons}
use Rattle.lexicon.specs.Words.{Word, letter_holds, letters_hold, good_word, rises}
use Rattle.lexicon.specs.Check.{common}

-- A word's length and letters.

pub letters-all : (w : Word) → list_all letter_holds w ≡ letters_hold w
letters-all [] = refl
letters-all (x ∷ w) = ap (λ (b : Bool). letter_holds x && b) (letters-all w)

pub word-letters : (w : Word) → 1 ≤ length w → length w ≤ 64 → letters_hold w ≡ good_word w
word-letters w n h = sym (ap₂ (λ (a b : Bool). (a && b) && letters_hold w) (le-leb 1 (length w) n) (le-leb (length w) 64 h))

-- What two words have in common.

pub common-first : (p w : Word) → common p w ≤ length p
common-first [] w = omega arith
common-first (x ∷ p) [] = omega arith
common-first (x ∷ p) (y ∷ w) = go (eqb x y) (common-first p w)
  where
    go : (t : Bool) → common p w ≤ length p → cond t (suc (common p w)) 0 ≤ suc (length p)
    go true h = omega arith
    go false h = omega arith

pub common-second : (p w : Word) → common p w ≤ length w
common-second [] w = omega arith
common-second (x ∷ p) [] = omega arith
common-second (x ∷ p) (y ∷ w) = go (eqb x y) (common-second p w)
  where
    go : (t : Bool) → common p w ≤ length w → cond t (suc (common p w)) 0 ≤ suc (length w)
    go true h = omega arith
    go false h = omega arith

pub common-same : (p w : Word) → take (common p w) p ≡ take (common p w) w
common-same [] w = refl
common-same (x ∷ p) [] = refl
common-same (x ∷ p) (y ∷ w) = go (eqb x y) refl (common-same p w)
  where
    go : (t : Bool) → eqb x y ≡ t → take (common p w) p ≡ take (common p w) w → take (cond t (suc (common p w)) 0) (x ∷ p) ≡ take (cond t (suc (common p w)) 0) (y ∷ w)
    go true e h = ap₂ (λ (a : ℕ) (l : Word). a ∷ l) (eqb-true x y e) h
    go false e h = refl

-- as the letters that are the same at the front of both
abbrev pub same_letters : ℕ × ℕ → Bool
same_letters p = eqb p.0 p.1

pub common-zip : (p w : Word) → length (take_while same_letters (zip p w)) ≡ common p w
common-zip [] w = refl
common-zip (x ∷ p) [] = refl
common-zip (x ∷ p) (y ∷ w) = go (eqb x y) refl (common-zip p w)
  where
    go : (t : Bool) → eqb x y ≡ t → length (take_while same_letters (zip p w)) ≡ common p w → length (take_while same_letters ((x, y) ∷ zip p w)) ≡ cond t (suc (common p w)) 0
    go true e h = rw (take_while-cons same_letters (x, y) (zip p w), e) (ap suc h)
    go false e h = rw (take_while-cons same_letters (x, y) (zip p w), e) refl

-- nor does it matter what stands behind
pub common-cut : (p w : Word) (m : ℕ) → common p w ≤ m → common (take m p) (take m w) ≡ common p w
common-cut p w zero h = omega arith
common-cut [] w (suc m) h = refl
common-cut (x ∷ p) [] (suc m) h = refl
common-cut (x ∷ p) (y ∷ w) (suc m) h = go (eqb x y) h (λ l. common-cut p w m l)
  where
    go : (t : Bool) → cond t (suc (common p w)) 0 ≤ suc m → (common p w ≤ m → common (take m p) (take m w) ≡ common p w)
        → cond t (suc (common (take m p) (take m w))) 0 ≡ cond t (suc (common p w)) 0
    go true l G = ap suc (G (omega arith))
    go false l G = refl

-- Dictionary order, by the first difference.

-- as the order of slices
pub rises_by : (p w : Word) (r : Bool) → r ≡ is_some_and is_lt (slice_partial_cmp (λ x y. Some (nat_cmp x y)) p w) → r ≡ rises p w
rises_by p w r e = same_from_slice_cmp_tested nat_cmp is_lt rises refl (λ _ _. refl) (λ _ _. refl) (λ x y xs ys o h. grind (arith, nat_tests)) p w r e

-- the letters behind the common ones decide
pub rises-behind : (p w : Word) → rises (drop (common p w) p) (drop (common p w) w) ≡ rises p w
rises-behind [] w = refl
rises-behind (x ∷ p) [] = refl
rises-behind (x ∷ p) (y ∷ w) = go (eqb x y) refl (rises-behind p w)
  where
    go : (t : Bool) → eqb x y ≡ t → rises (drop (common p w) p) (drop (common p w) w) ≡ rises p w
        → rises (drop (cond t (suc (common p w)) 0) (x ∷ p)) (drop (cond t (suc (common p w)) 0) (y ∷ w)) ≡ rises (x ∷ p) (y ∷ w)
    go true e h = rw (le-ltb x y (omega (arith, eqb-true x y e)), e) h
    go false e h = refl

pub rises_by_rest : (p w : Word) (n : ℕ) (r : Bool) → r ≡ is_some_and is_lt (slice_partial_cmp (λ x y. Some (nat_cmp x y)) (take (length p - n) (drop n p)) (take (length w - n) (drop n w)))
    → n ≡ common p w → r ≡ rises p w
rises_by_rest p w n r e s =
    rises_by (take (length p - n) (drop n p)) (take (length w - n) (drop n w)) r e
    ∙ ap₂ rises (take_rest p n) (take_rest w n)
    ∙ ap (λ (k : ℕ). rises (drop k p) (drop k w)) s
    ∙ rises-behind p w

pub rises-short : (p w : Word) → length w ≤ common p w → rises p w ≡ false
rises-short [] [] h = refl
rises-short [] (y ∷ w) h = absurd (omega arith)
rises-short (x ∷ p) [] h = refl
rises-short (x ∷ p) (y ∷ w) h = go (eqb x y) refl h (λ l. rises-short p w l)
  where
    go : (t : Bool) → eqb x y ≡ t → suc (length w) ≤ cond t (suc (common p w)) 0 → (length w ≤ common p w → rises p w ≡ false) → rises (x ∷ p) (y ∷ w) ≡ false
    go true e h G = rw (le-ltb x y (omega (arith, eqb-true x y e)), e, G (omega arith))
    go false e h G = absurd (omega arith)

-- so a word that is above has a letter more
pub rises-more : (p w : Word) → rises p w ≡ true → common p w < length w
rises-more p w e = go (ltb (common p w) (length w)) refl
  where
    go : (t : Bool) → ltb (common p w) (length w) ≡ t → common p w < length w
    go true f = ltb-true (common p w) (length w) f
    go false f = absurd (true≢false (sym e ∙ rises-short p w (ltb-false (common p w) (length w) f)))
