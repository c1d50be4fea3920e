-- At every turn the first cells of the row are stored.
use mathlib.Core.Path.{◌≡◌}
use lib.ListN.{take, drop}
use lib.Seq.{sets}
use Rattle.table_items.proofs.put_class.Given as goal

abbrev pub invariant-loop-k : goal.invariant-loop-k
invariant-loop-k l = l.cells ≡ sets l.initial.cells l.at (take l.k (drop 2 l.bytes))
