use Prim.Native.Nat.{◌≤◌}
use mathlib.Core.Path.{◌≡◌}
use mathlib.Core.Bool.{true}
use Rattle.table_format.specs.Classes.{class_count}
use Rattle.table_format.specs.Rules.{arcs_keep}
use Rattle.table_format.specs.Loaded.{rows_in, arcs_in}
use Rattle.table_rules.specs.Judge.{largest, arc_key}
use Rattle.table_check.proofs.each_arc_holds.Given as goal

abbrev pub invariant-loop-n : goal.invariant-loop-n
invariant-loop-n l =
    (largest arc_key (arcs_in l.n l.cells) ≤ l.top) × (arcs_keep l.states (rows_in class_count l.rows) (arcs_in l.n l.cells) ≡ true)
