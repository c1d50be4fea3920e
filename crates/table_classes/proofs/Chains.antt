-- What code computes by `&&`, and by a test of each number of a range.
use Prim.Native.Nat.{ℕ, suc, ◌+◌, ◌<◌}
use native.Mathlib.Omega.{arith}
use mathlib.Core.Path.{◌≡◌, refl, sym, ap, ap₂, ◌∙◌}
use mathlib.Core.Bool.{Bool, true, false, ◌&&◌}
use mathlib.Core.List.{List, [], ◌∷◌, ◌++◌}
use lib.ListN.{length, get_or}
use Rattle.std.specs.List.{list_all, range_with_len}
use Rattle.table_format.specs.Rules.{each}

-- A bool by `&&`, which looks at its second part only where the first is true.
pub and_then : {p v q x y : Bool} → p ≡ x → p ≡ true → v ≡ q → q ≡ y → v ≡ (x && y)
and_then {y = y} e t w f = w ∙ f ∙ ap (λ (z : Bool). z && y) (sym t ∙ e)

pub and_stop : {p v x : Bool} (y : Bool) → p ≡ x → p ≡ false → v ≡ p → v ≡ (x && y)
and_stop y e t w = w ∙ t ∙ ap (λ (z : Bool). z && y) (sym t ∙ e)

-- A test of each place of a list is one of each element.
pub all_each : {A : Type 0} (test : A → Bool) (d : A) (xs : List A) (f : ℕ → Bool) → ((k : ℕ) → k < length xs → f k ≡ test (get_or xs k d))
    → list_all f (range_with_len 0 (length xs)) ≡ each (λ before x. test x) [] xs
unfolding each
all_each {A} test d xs f h = go [] xs 0 (λ k g. ap f {x = 0 + k} {y = k} (omega arith) ∙ h k g)
  where
    go : (before xs : List A) (a : ℕ) → ((k : ℕ) → k < length xs → f (a + k) ≡ test (get_or xs k d)) → list_all f (range_with_len a (length xs)) ≡ each (λ before x. test x) before xs
    go before [] a h = refl
    go before (x ∷ xs) a h =
        ap₂ ◌&&◌ (ap f {x = a} {y = a + 0} (omega arith) ∙ h 0 (omega arith))
        (go (before ++ (x ∷ [])) xs (a + 1) (λ k g. ap f {x = a + 1 + k} {y = a + suc k} (omega arith) ∙ h (suc k) (omega arith)))
