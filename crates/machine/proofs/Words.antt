-- The test for equal words tells them.
use Prim.Native.Nat.{ℕ}
use native.Mathlib.Omega.{arith}
use mathlib.Core.Path.{◌≡◌, refl, ap₂, subst}
use mathlib.Core.Bool.{true}
use mathlib.Core.List.{List, [], ◌∷◌}
use lib.Dec.{eqb}
use borrow.Author.Tests.{eqb-true, eq-eqb}
use Rattle.table_format.proofs.Tests.{and_left, and_right, and_both}
use Rattle.machine.specs.Query.{same_word}

pub same_word_lem : (v w : List ℕ) → same_word v w ≡ true → v ≡ w
same_word_lem [] [] e = refl
same_word_lem [] (y ∷ w) e = absurd (let z : ◌≡◌ {A = ℕ} 0 1 = cc in omega arith)
same_word_lem (x ∷ v) [] e = absurd (let z : ◌≡◌ {A = ℕ} 0 1 = cc in omega arith)
same_word_lem (x ∷ v) (y ∷ w) e = ap₂ (λ (a : ℕ) (l : List ℕ). a ∷ l) (eqb-true x y (and_left (eqb x y) (same_word v w) e)) (same_word_lem v w (and_right (eqb x y) (same_word v w) e))

pub word_same : (v w : List ℕ) → v ≡ w → same_word v w ≡ true
word_same v w e = subst (λ (x : List ℕ). same_word v x ≡ true) e (itself v)
  where
    itself : (v : List ℕ) → same_word v v ≡ true
    itself [] = refl
    itself (x ∷ v) = and_both (eq-eqb x x refl) (itself v)
