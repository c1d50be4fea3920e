-- At every turn the letters so far rise, and the cells from there on decide.
use mathlib.Core.Path.{◌≡◌}
use lib.ListN.{drop}
use Rattle.table_format.specs.Rules.{row_holds}
use Rattle.table_classes.proofs.ClassRows.{fills}
use Rattle.table_classes.proofs.row_holds.Given as goal

abbrev pub invariant-loop-k : goal.invariant-loop-k
invariant-loop-k l = row_holds l.row ≡ fills l.last (drop l.k l.row)
