-- At every turn, the characters counted and those of the lines left are the characters of all.
use Prim.Native.Nat.{◌+◌, ◌*◌, ◌≤◌}
use mathlib.Core.Path.{◌≡◌}
use lib.ListN.{length}
use Rattle.table_format.specs.Text.{line_bytes, join_lines}
use Rattle.table_format.specs.Line.{characters_of}
use Rattle.table_classes.proofs.Letters.{lines_from}
use Rattle.table_printer.proofs.class_size.Given as goal

abbrev pub invariant-loop-c : goal.invariant-loop-c
invariant-loop-c l =
    (l.size ≤ characters_of line_bytes * l.c)
    × (l.size + length (join_lines (lines_from l.c l.rows)) ≡ length (join_lines (lines_from 0 l.rows)))
