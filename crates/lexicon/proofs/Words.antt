-- Laws of words: whether two are the same, whether one is listed, dictionary order, and what the words of a list that holds keep to.
use Prim.Native.Nat.{ℕ, ◌≤◌}
use mathlib.Core.Path.{◌≡◌, refl, sym, ap₂, subst}
use mathlib.Core.Logic.{inl, inr, ⊎_elim}
use mathlib.Core.Bool.{Bool, true, false, ◌&&◌, false≢true}
use mathlib.Core.List.{List, [], ◌∷◌, ◌++◌, Memᴰ}
use lib.Dec.{eqb, leb, ltb}
use lib.ListN.{length}
use borrow.Author.Tests.{eqb-true, eq-eqb, ltb-true, leb-true}
use Rattle.table_format.proofs.Tests.{and_left, and_right, or_cases}
use Rattle.table_format.proofs.Any.{any_found, any-mem}
use Rattle.table_format.proofs.All.{all-each, all-mem}
use Rattle.graph.specs.Lists.{Before}
use Rattle.lexicon.specs.Words.{Word, letter_holds, letters_hold, good_word, rises, follows, list_holds, same, listed}

pub same-is : (v w : Word) → same v w ≡ true → v ≡ w
same-is [] [] e = refl
same-is [] (y ∷ w) e = absurd (false≢true e)
same-is (x ∷ v) [] e = absurd (false≢true e)
same-is (x ∷ v) (y ∷ w) e = ap₂ (λ (a : ℕ) (b : Word). a ∷ b) (eqb-true x y (and_left _ _ e)) (same-is v w (and_right (eqb x y) _ e))

pub is_same : (w : Word) → same w w ≡ true
is_same [] = refl
is_same (x ∷ w) = rw (eq-eqb x x refl) (is_same w)

pub listed-mem : (ws : List Word) (w : Word) → listed ws w ≡ true → Memᴰ w ws
listed-mem ws w e = let R = any_found (same w) ws e in subst (λ (v : Word). Memᴰ v ws) (sym (same-is w R.0 R.2)) R.1

pub mem-listed : (ws : List Word) (w : Word) → Memᴰ w ws → listed ws w ≡ true
mem-listed ws w m = any-mem (same w) ws w m (is_same w)

-- and none is listed that is no member
pub not_listed : (ws : List Word) (w : Word) → (Memᴰ w ws → ⊥) → listed ws w ≡ false
not_listed ws w h = go (listed ws w) refl
  where
    go : (b : Bool) → listed ws w ≡ b → b ≡ false
    go true e = absurd (h (listed-mem ws w e))
    go false e = refl

pub rises-before : (u v : Word) → rises u v ≡ true → Before u v
rises-before [] [] e = absurd (false≢true e)
rises-before [] (y ∷ v) e = tt
rises-before (x ∷ u) [] e = absurd (false≢true e)
rises-before (x ∷ u) (y ∷ v) e =
    ⊎_elim (λ l. inl (ltb-true x y l)) (λ l. inr (eqb-true x y (and_left _ _ l), rises-before u v (and_right (eqb x y) _ l))) (or_cases (ltb x y) _ e)

-- The words of a list that holds.

-- what each word passes with those before it
abbrev pub word_test : List Word → Word → Bool
word_test before w = good_word w && follows before w

pub mem-holds : (ws : List Word) → list_holds ws ≡ true → (w : Word) → Memᴰ w ws → good_word w ≡ true
mem-holds ws e = all-mem (λ w. good_word w ≡ true) ws (all-each (λ w. good_word w ≡ true) word_test (λ before w f. and_left _ _ f) [] ws e)

pub no_empty : good_word [] ≡ true → ⊥
no_empty e = false≢true e

pub letters : (w : Word) → good_word w ≡ true → letters_hold w ≡ true
letters w e = and_right (leb 1 (length w) && leb (length w) 64) _ e

-- a letter inside a word whose letters hold
pub letter_in_lem : (c u : Word) (x : ℕ) → letters_hold (c ++ (x ∷ u)) ≡ true → (1 ≤ x) × (x ≤ 62)
letter_in_lem [] u x e = let f = and_left (letter_holds x) _ e in (leb-true 1 x (and_left _ _ f), leb-true x 62 (and_right (leb 1 x) _ f))
letter_in_lem (y ∷ c) u x e = letter_in_lem c u x (and_right (letter_holds y) _ e)
