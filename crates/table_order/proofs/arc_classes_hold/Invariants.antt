use mathlib.Core.Path.{◌≡◌}
use Rattle.table_format.specs.Classes.{class_count}
use Rattle.table_format.specs.Loaded.{rows_in, arcs_in}
use Rattle.table_format.specs.Cells.{arcs_as}
use Rattle.table_order.specs.Order.{arc_classes_hold}
use Rattle.table_order.proofs.arc_classes_hold.Given as goal

-- the classes are those of the arcs left
abbrev pub invariant-loop-n : goal.invariant-loop-n
invariant-loop-n l = (arc_classes_hold (rows_in class_count l.rows) (arcs_as l.cells) ≡ arc_classes_hold (rows_in class_count l.rows) (arcs_in l.n l.cells))
