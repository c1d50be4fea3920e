use mathlib.Core.Path.{sym, ◌∙◌}
use Rattle.table_format.specs.Classes.{class_count}
use Rattle.table_format.specs.Loaded.{rows_in}
use Rattle.table_format.specs.Cells.{arcs_as}
use Rattle.table_format.proofs.Classes.{length-rows_in}
use Rattle.table_order.proofs.Rising.{rising-keep}
use Rattle.table_check.proofs.arcs_hold.Goals as goal

pub returns-then-arcs_rise : goal.returns-then-arcs_rise
returns-then-arcs_rise c =
    let a = c.args in
    c.if-arcs_rise.true ∙ sym (rising-keep a.states (rows_in class_count a.rows.now) (arcs_as a.cells.now) (length-rows_in class_count a.rows.now) (sym c.arcs_rise.ensures ∙ c.if-arcs_rise.true))
