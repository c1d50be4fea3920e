-- From the last arc back, while its source is the arc's own: whether it is among those that are left decides.
use mathlib.Core.Path.{◌≡◌}
use Rattle.table_format.specs.Cells.{arc_said, arcs_as}
use Rattle.table_rules.specs.Judge.{repeated}
use Rattle.table_rules.proofs.Faults.{Found}
use Rattle.table_rules.proofs.is_repeated.Given as goal

abbrev pub invariant-loop-n : goal.invariant-loop-n
invariant-loop-n l = repeated (arcs_as l.before) (arc_said l.arc) ≡ Found l.before (arc_said l.arc) l.n
