-- At every turn, the lines counted and those of the classes left are the lines of all.
use Prim.Native.Nat.{◌+◌, ◌≤◌}
use mathlib.Core.Path.{◌≡◌}
use lib.ListN.{length}
use Rattle.table_classes.proofs.Letters.{lines_from}
use Rattle.table_classes.proofs.defined_count.Given as goal

abbrev pub invariant-loop-c : goal.invariant-loop-c
invariant-loop-c l = (l.count ≤ l.c) × (l.count + length (lines_from l.c l.rows) ≡ length (lines_from 0 l.rows))
