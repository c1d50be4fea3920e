-- At every turn, the characters counted and those of the lines left are the characters of all.
use Prim.Native.Nat.{◌+◌, ◌*◌, ◌≤◌}
use mathlib.Core.Path.{◌≡◌}
use mathlib.Core.List.{map}
use lib.ListN.{length, drop}
use Rattle.table_format.specs.Cells.{arcs_as}
use Rattle.table_format.specs.Line.{characters_of}
use Rattle.table_format.specs.Text.{arc_bytes, join_lines}
use Rattle.table_format.specs.Parse.{penalty_width}
use Rattle.table_printer.proofs.arc_size.Given as goal

abbrev pub invariant-loop-n : goal.invariant-loop-n
invariant-loop-n l =
    (l.size ≤ characters_of penalty_width * l.n)
    × (l.size + length (join_lines (map arc_bytes (drop l.n (arcs_as l.arcs)))) ≡ length (join_lines (map arc_bytes (arcs_as l.arcs))))
