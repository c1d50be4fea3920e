use native.Mathlib.Omega.{arith}
use mathlib.Core.Path.{◌≡◌, refl, sym, ap, ap₂, ◌∙◌}
use mathlib.Core.List.{List}
use Rattle.std.specs.Prelude.{is_err}
use Rattle.table_format.specs.declared.Arc as Held
use Rattle.table_format.specs.Table.{Arc}
use Rattle.table_format.specs.Classes.{class_count}
use Rattle.table_format.specs.Rules.{each, arc_faults, arcs_keep}
use Rattle.table_format.specs.Loaded.{rows_in, arcs_in}
use Rattle.table_format.specs.Cells.{arc_count, arc_of, arc_said}
use Rattle.table_rules.specs.Judge.{judged, largest, arc_key}
use Rattle.table_format.proofs.Arcs.{front}
use Rattle.table_rules.proofs.Turn.{keep-arc, fail_arc, top-arc}
use Rattle.table_check.proofs.each_arc_holds.Goals as goal
use Rattle.table_check.proofs.each_arc_holds.Goals.{After-arc_fault}

-- how the arc is judged, after the arcs before it
judged-here : (c : After-arc_fault)
    → c.arc_fault.result ≡ judged (arc_faults c.args.states (rows_in class_count c.args.rows.now) (arcs_in c.loop-n.n c.args.cells.now) (arc_of c.args.cells.now c.loop-n.n))
judged-here c =
    c.arc_fault.ensures
    ∙ ap₂ (λ (l : List Arc) (a : Held.Arc). judged (arc_faults c.args.states (rows_in class_count c.args.rows.now) l (arc_said a))) (front c.args.cells.now c.loop-n.n (omega arith)) c.arc_at-arc.ensures

pub loop-n-init : goal.loop-n-init
unfolding largest each arcs_in
loop-n-init c = (omega arith, refl)

pub arc_fault-requires-clause-before_value : goal.arc_fault-requires-clause-before_value
arc_fault-requires-clause-before_value c = ap (arcs_keep c.args.states (rows_in class_count c.args.rows.now)) (front c.args.cells.now c.loop-n.n (omega arith)) ∙ c.loop-n.invariant.1

pub arc_fault-requires-clause-before_bound : goal.arc_fault-requires-clause-before_bound
arc_fault-requires-clause-before_bound c = omega (arith, ap (largest arc_key) (front c.args.cells.now c.loop-n.n (omega arith)))

pub returns-then-is_err : goal.returns-then-is_err
returns-then-is_err c =
    let a = c.args in
    sym (fail_arc a.states (rows_in class_count a.rows.now) a.cells.now c.loop-n.n (arc_count a.cells.now) (omega arith) (sym (ap is_err (judged-here (goal.at.returns-then-is_err c).After-arc_fault)) ∙ sym c.is_err.ensures.value ∙ c.if-is_err.true))

pub loop-n-preserved : goal.loop-n-preserved
loop-n-preserved c =
    let a = c.args in
    let key : c.arc_key.result ≡ arc_key (arc_of a.cells.now c.loop-n.n) = c.arc_key.ensures ∙ ap (λ (x : Held.Arc). arc_key (arc_said x)) c.arc_at-arc.ensures in (
      top-arc a.states (rows_in class_count a.rows.now) a.cells.now c.loop-n.n c.max-top.result (omega arith) (omega arith),
      keep-arc a.states (rows_in class_count a.rows.now) a.cells.now c.loop-n.n c.loop-n.invariant.1 (sym (ap is_err (judged-here (goal.at.loop-n-preserved c).After-arc_fault)) ∙ sym c.is_err.ensures.value ∙ c.if-is_err.false),
    )
