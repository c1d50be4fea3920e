-- At every turn, whether the cells so far are blank; the others decide.
use mathlib.Core.Path.{◌≡◌}
use mathlib.Core.Bool.{◌&&◌}
use lib.ListN.{drop}
use Rattle.table_format.specs.Rules.{is_blank}
use Rattle.table_classes.proofs.is_blank.Given as goal

abbrev pub invariant-loop-x : goal.invariant-loop-x
invariant-loop-x l = is_blank l.cells ≡ (l.blank && is_blank (drop l.x-index l.cells))
