use Prim.Native.Nat.{◌-◌}
use native.Mathlib.Omega.{arith}
use mathlib.Core.Path.{◌≡◌, refl, sym, ap, ◌∙◌}
use mathlib.Core.Bool.{Bool, true, false, ◌&&◌}
use Rattle.table_format.specs.declared.Arc as Held
use Rattle.table_format.specs.Classes.{class_count}
use Rattle.table_format.specs.Rules.{each, arc_class_holds}
use Rattle.table_format.specs.Loaded.{rows_in, arcs_in}
use Rattle.table_format.specs.Cells.{arc_said, arcs_as}
use Rattle.table_format.proofs.Arcs.{at_equal}
use Rattle.table_order.specs.Order.{arc_classes_hold}
use Rattle.table_order.proofs.Rising.{test-turn}
use Rattle.table_order.proofs.arc_classes_hold.Goals as goal
use Rattle.table_order.proofs.arc_classes_hold.Goals.{After-arc_class_holds}

-- one arc less, as its class tells
turn : (c : After-arc_class_holds) (b : Bool) → c.arc_class_holds.result ≡ b
    → arc_classes_hold (rows_in class_count c.args.rows.now) (arcs_as c.args.cells.now)
    ≡ (b && arc_classes_hold (rows_in class_count c.args.rows.now) (arcs_in (c.loop-n.n - 1) c.args.cells.now))
turn c b e =
    c.loop-n.invariant
    ∙ test-turn c.args.cells.now c.loop-n.n (omega arith) (arc_class_holds (rows_in class_count c.args.rows.now)) b (ap (λ (a : Held.Arc). arc_class_holds (rows_in class_count c.args.rows.now) (arc_said a)) (sym c.arc_at.ensures) ∙ sym c.arc_class_holds.ensures ∙ e)

pub loop-n-init : goal.loop-n-init
loop-n-init c = refl

pub returns-then-not-arc_class_holds : goal.returns-then-not-arc_class_holds
returns-then-not-arc_class_holds c = sym (turn (goal.at.returns-then-not-arc_class_holds c).After-arc_class_holds false (c.if-not-arc_class_holds.true))

pub loop-n-preserved : goal.loop-n-preserved
loop-n-preserved c = turn (goal.at.loop-n-preserved c).After-arc_class_holds true (c.if-not-arc_class_holds.false)

pub returns : goal.returns
unfolding each arcs_in
returns c =
    sym (c.loop-n.invariant ∙ at_equal (λ n. arc_classes_hold (rows_in class_count c.args.rows.now) (arcs_in n c.args.cells.now)) c.loop-n.n 0 (omega arith))
