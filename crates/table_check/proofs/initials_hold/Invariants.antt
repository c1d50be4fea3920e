use Prim.Native.Nat.{◌≤◌}
use mathlib.Core.Path.{◌≡◌}
use mathlib.Core.Bool.{true}
use lib.ListN.{take}
use Rattle.table_format.specs.Rules.{initials_keep}
use Rattle.table_rules.specs.Judge.{largest, state_key}
use Rattle.table_check.proofs.initials_hold.Given as goal

abbrev pub invariant-loop-k : goal.invariant-loop-k
invariant-loop-k l = (largest state_key (take l.k l.list) ≤ l.top) × (initials_keep l.states (take l.k l.list) ≡ true)
