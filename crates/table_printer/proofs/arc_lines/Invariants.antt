-- At every turn, storing the lines of the arcs that are left gives what storing all of them gives.
use Prim.Native.Nat.{◌+◌}
use mathlib.Core.Path.{◌≡◌}
use mathlib.Core.List.{map}
use lib.ListN.{length, drop}
use lib.Seq.{sets}
use Rattle.table_format.specs.Cells.{arcs_as}
use Rattle.table_format.specs.Text.{arc_bytes, join_lines}
use Rattle.table_printer.proofs.arc_lines.Given as goal

abbrev pub invariant-loop-n : goal.invariant-loop-n
invariant-loop-n l =
    (l.to + length (join_lines (map arc_bytes (drop l.n (arcs_as l.arcs)))) ≡ l.at + length (join_lines (map arc_bytes (arcs_as l.arcs))))
    × (sets l.text l.to (join_lines (map arc_bytes (drop l.n (arcs_as l.arcs)))) ≡ sets l.initial.text l.at (join_lines (map arc_bytes (arcs_as l.arcs))))
