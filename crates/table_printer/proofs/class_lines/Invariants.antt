-- At every turn, storing the lines of the classes that are left gives what storing all of them gives.
use Prim.Native.Nat.{◌+◌}
use mathlib.Core.Path.{◌≡◌}
use lib.ListN.{length}
use lib.Seq.{sets}
use Rattle.table_format.specs.Text.{join_lines}
use Rattle.table_classes.proofs.Letters.{lines_from}
use Rattle.table_printer.proofs.class_lines.Given as goal

abbrev pub invariant-loop-c : goal.invariant-loop-c
invariant-loop-c l =
    (l.to + length (join_lines (lines_from l.c l.rows)) ≡ l.at + length (join_lines (lines_from 0 l.rows)))
    × (sets l.text l.to (join_lines (lines_from l.c l.rows)) ≡ sets l.initial.text l.at (join_lines (lines_from 0 l.rows)))
