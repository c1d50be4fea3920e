use mathlib.Core.Path.{◌≡◌}
use lib.ListN.{take}
use Rattle.table_order.proofs.Terminals.{terminals_rise}
use Rattle.table_order.proofs.terminals_hold.Given as goal

abbrev pub invariant-loop-k : goal.invariant-loop-k
invariant-loop-k l = l.rise ≡ terminals_rise (take l.k l.list)
