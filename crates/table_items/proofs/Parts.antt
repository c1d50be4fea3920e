-- Parts of lists: one from a place on to another, and stores in the first or the second of two lists.
use Prim.Native.Nat.{ℕ, zero, suc, ◌+◌, ◌-◌, ◌≤◌}
use native.Mathlib.Omega.{arith}
use mathlib.Core.Path.{◌≡◌, refl, sym, ap, ◌∙◌}
use mathlib.Core.List.{List, [], ◌∷◌, ◌++◌}
use lib.ListN.{length, take, drop, set, length-set}
use lib.Seq.{sets, set-append_left, take-nil}
use Rattle.table_format.proofs.Arcs.{at_equal}
use Rattle.table_scanner.proofs.Padded.{sets_tail}

pub drop-take : (k n : ℕ) (l : List ℕ) → drop k (take n l) ≡ take (n - k) (drop k l)
drop-take zero n l = at_equal (λ m. take m l) n (n - 0) (omega arith)
drop-take (suc k) zero l = sym (at_equal (λ m. take m (drop (suc k) l)) (0 - suc k) 0 (omega arith))
drop-take (suc k) (suc n) [] = sym (take-nil (suc n - suc k))
drop-take (suc k) (suc n) (x ∷ l) = drop-take k n l ∙ at_equal (λ m. take m (drop k l)) (n - k) (suc n - suc k) (omega arith)

pub sets-left : (vs xs ys : List ℕ) (i : ℕ) → i + length vs ≤ length xs → sets (xs ++ ys) i vs ≡ sets xs i vs ++ ys
sets-left [] xs ys i h = refl
sets-left (v ∷ vs) xs ys i h =
    ap (λ (l : List ℕ). sets l (suc i) vs) (set-append_left xs ys i v (omega arith))
    ∙ sets-left vs (set xs i v) ys (suc i) (omega (arith, length-set xs i v))

pub sets_right : (xs ys vs : List ℕ) (i : ℕ) → sets (xs ++ ys) (length xs + i) vs ≡ xs ++ sets ys i vs
sets_right [] ys vs i = at_equal (λ n. sets ys n vs) (0 + i) i (omega arith)
sets_right (x ∷ xs) ys vs i =
    at_equal (λ n. sets (x ∷ (xs ++ ys)) n vs) (suc (length xs) + i) (suc (length xs + i)) (omega arith)
    ∙ sets_tail x (xs ++ ys) (length xs + i) vs
    ∙ ap (λ (l : List ℕ). x ∷ l) (sets_right xs ys vs i)
