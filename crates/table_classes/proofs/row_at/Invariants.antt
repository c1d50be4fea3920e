-- At every turn the first cells of the row are those of the table.
use mathlib.Core.Path.{◌≡◌}
use lib.ListN.{length, take, drop}
use Rattle.table_format.specs.Classes.{row_width}
use Rattle.table_classes.proofs.row_at.Given as goal

abbrev pub invariant-loop-k : goal.invariant-loop-k
invariant-loop-k l = (length l.row ≡ row_width) × (take l.k l.row ≡ take l.k (drop l.at l.table))
