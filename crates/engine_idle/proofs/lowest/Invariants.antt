-- The loop: no state below s is reached and on an idle cycle.
use Rattle.std.proofs.Common.{ℕ, ◌<◌}
use Rattle.engine_idle.specs.Found.{LoopedAt}
use Rattle.engine_idle.proofs.lowest.Given as goal

abbrev pub invariant-loop-s : goal.invariant-loop-s
invariant-loop-s l = (i : ℕ) → i < l.s → LoopedAt l.graph l.reached i → ⊥
