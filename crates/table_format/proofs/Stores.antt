-- Characters stored in a text: one run after the other, and the run of a byte.
use Prim.Native.Nat.{ℕ, suc, ◌+◌}
use native.Mathlib.Omega.{arith}
use native.Mathlib.Numerals.{add-one}
use mathlib.Core.Path.{◌≡◌, ap, ◌∙◌}
use mathlib.Core.List.{List, [], ◌∷◌, ◌++◌}
use lib.ListN.{length, set}
use lib.Seq.{sets}
use Rattle.table_format.specs.Line.{chars_of}

-- one run after another is their run
pub sets-append : (l : List ℕ) (at to : ℕ) (xs ys : List ℕ) → to ≡ at + length xs → sets (sets l at xs) to ys ≡ sets l at (xs ++ ys)
sets-append l at to [] ys e = let same : to ≡ at = omega arith in ap (λ (k : ℕ). sets l k ys) same
sets-append l at to (x ∷ xs) ys e = sets-append (set l at x) (suc at) to xs ys (omega arith)

-- the same from what each run left
pub then : (l m n : List ℕ) (at to : ℕ) (xs ys : List ℕ) → m ≡ sets l at xs → to ≡ at + length xs → n ≡ sets m to ys → n ≡ sets l at (xs ++ ys)
then l m n at to xs ys p e q = q ∙ ap (λ (k : List ℕ). sets k to ys) p ∙ sets-append l at to xs ys e

module _ (l : List ℕ) (at : ℕ) where
  pub byte-stored : (b h k : ℕ) → h ∷ k ∷ [] ≡ chars_of (b ∷ []) → set (set l at h) (at + 1) k ≡ sets l at (chars_of (b ∷ []))
  byte-stored b h k e = ap (λ (i : ℕ). set (set l at h) i k) (add-one at) ∙ ap (sets l at) e
