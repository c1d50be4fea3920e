-- At every turn the first rows are those of the classes.
use mathlib.Core.Path.{◌≡◌}
use lib.ListN.{length, take}
use Rattle.table_format.specs.Classes.{class_count}
use Rattle.table_format.specs.Loaded.{classes_in}
use Rattle.table_classes.proofs.rows.Given as goal

abbrev pub invariant-loop-c : goal.invariant-loop-c
invariant-loop-c l = (length l.row-items ≡ class_count) × (take l.c l.row-items ≡ take l.c (classes_in l.table))
