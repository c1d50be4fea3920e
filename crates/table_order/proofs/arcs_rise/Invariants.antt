use Prim.Native.Nat.{◌*◌}
use mathlib.Core.Path.{◌≡◌}
use mathlib.Core.Bool.{true, ◌&&◌}
use mathlib.Core.List.{reverse}
use lib.Dec.{leb}
use Rattle.table_format.specs.Classes.{class_count}
use Rattle.table_format.specs.Rules.{penalties_keep}
use Rattle.table_format.specs.Loaded.{rows_in, arcs_in}
use Rattle.table_format.specs.Cells.{arcs_as}
use Rattle.table_order.specs.Order.{joined_plain, keys_fall, arc_classes_hold}
use Rattle.table_order.proofs.arcs_rise.Given as goal

-- the order is that of the arcs left, below the bound; so are the classes where the letters joined mean none, and the penalties
-- where those joined are within their limit
abbrev pub invariant-loop-n : goal.invariant-loop-n
invariant-loop-n l =
    (keys_fall l.states (l.states * 4294967296) (reverse (arcs_as l.cells)) ≡ keys_fall l.states l.bound (reverse (arcs_in l.n l.cells)))
    × (joined_plain l.joined ≡ true → arc_classes_hold (rows_in class_count l.rows) (arcs_as l.cells) ≡ arc_classes_hold (rows_in class_count l.rows) (arcs_in l.n l.cells))
    × (penalties_keep (arcs_as l.cells) ≡ (leb l.penalties 255 && penalties_keep (arcs_in l.n l.cells)))
