-- The cells after a push.
use Prim.Native.Nat.{ℕ, zero, suc, ◌-◌}
use native.Mathlib.Omega.{arith}
use mathlib.Core.Path.{◌≡◌, refl, ◌∙◌}
use mathlib.Core.List.{List}
use lib.ListN.{length}
use Rattle.machine.specs.Frames as F
use Rattle.machine.specs.Step.{tried_of}
use Rattle.machine.specs.Transducer.{Passed}
use Rattle.machine.specs.Stack.{look_at}
use Rattle.machine.proofs.Stack.{length-put}
use Rattle.engine_push.specs.Pushing.{tried_below, entered_at}

pub pred_suc : (k : ℕ) → (k ≡ 0 → ⊥) → k ≡ suc (k - 1)
pred_suc zero y = absurd (y refl)
pred_suc (suc k) y = omega arith

module _ (c : List ℕ) (d : ℕ) where
  pub tried-length : length (tried_below c d) ≡ length c
  tried-length = go d
    where
      go : (k : ℕ) → length (tried_below c k) ≡ length c
      go zero = refl
      go (suc k) = length-put c k (tried_of (look_at c k))

  pub entered-length : (f : F.Frame (Passed × ℕ)) → length (entered_at c d f) ≡ length c
  entered-length f = length-put (tried_below c d) d f ∙ tried-length
