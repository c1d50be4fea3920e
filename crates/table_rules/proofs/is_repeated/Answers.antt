-- From the last arc back, while its source is the arc's own: whether it is among those that are left decides.
use Prim.Native.Nat.{◌-◌}
use mathlib.Core.Path.{◌≡◌, sym, ap, ◌∙◌}
use mathlib.Core.Bool.{Bool, false}
use borrow.Author.Tests.{eq-eqb, ne_eqb}
use Rattle.table_format.specs.declared.Arc as Held
use Rattle.table_format.specs.Rules.{same_arc}
use Rattle.table_format.specs.Cells.{arc_of, arc_said, arcs_as}
use Rattle.table_rules.specs.Judge.{repeated}
use Rattle.table_rules.proofs.Faults.{Found, found-hit, found-miss, found_none, found_stop}
use Rattle.table_rules.proofs.is_repeated.Goals as goal
use Rattle.table_rules.proofs.is_repeated.Goals.{After-arc_at-other, else-other-arc-2-via-then-other-arc-2+then-other-arc-3+else-other-arc-4, else-other-arc-2-via-then-other-arc-2+else-other-arc-3, else-other-arc-2-via-else-other-arc-2}

-- the arc looked at is the last of those that are left; where it is another one, those before it decide
looked : (c : After-arc_at-other) (b : Bool) → same_arc (arc_said c.arc_at-other.result) (arc_said c.args.arc) ≡ b
    → same_arc (arc_of c.args.before.now (c.loop-n.n - 1)) (arc_said c.args.arc) ≡ b
looked c b e = ap (λ (a : Held.Arc). same_arc (arc_said a) (arc_said c.args.arc)) (sym c.arc_at-other.ensures) ∙ e

missed : (c : After-arc_at-other) → same_arc (arc_said c.arc_at-other.result) (arc_said c.args.arc) ≡ false
    → repeated (arcs_as c.args.before.now) (arc_said c.args.arc) ≡ Found c.args.before.now (arc_said c.args.arc) (c.loop-n.n - 1)
missed c e = c.loop-n.invariant ∙ found-miss c.args.before.now (arc_said c.args.arc) c.loop-n.n c.loop-n-test.true (looked c false e)

pub returns-then-other-arc : goal.returns-then-other-arc
returns-then-other-arc c =
    sym
    (c.loop-n.invariant
    ∙ found_stop c.args.before.now (arc_said c.args.arc) c.loop-n.n c.requires c.loop-n-test.true c.loop-n.auto.n
    (λ e. c.if-other-arc.true (ap (λ (a : Held.Arc). a.source) c.arc_at-other.ensures ∙ e)))

pub returns-then-other-arc-4 : goal.returns-then-other-arc-4
returns-then-other-arc-4 c =
    sym
    (c.loop-n.invariant
    ∙ found-hit c.args.before.now (arc_said c.args.arc) c.loop-n.n c.loop-n-test.true
    (looked (goal.at.returns-then-other-arc-4 c).After-arc_at-other _ (simp (eq-eqb _ _ c.if-other-arc.false, eq-eqb _ _ c.if-other-arc-2.true, eq-eqb _ _ c.if-other-arc-3.true, eq-eqb _ _ c.if-other-arc-4.true))))

pub loop-n-preserved : goal.loop-n-preserved
loop-n-preserved c =
    missed (goal.at.loop-n-preserved c).After-arc_at-other
    (elim c.else-other-arc-2.branch [
      | else-other-arc-2-via-then-other-arc-2+then-other-arc-3+else-other-arc-4 w ↦ simp (eq-eqb _ _ c.if-other-arc.false, eq-eqb _ _ w.if-other-arc-2.true, eq-eqb _ _ w.if-other-arc-3.true, ne_eqb _ _ w.if-other-arc-4.false)
      | else-other-arc-2-via-then-other-arc-2+else-other-arc-3 w ↦ simp (eq-eqb _ _ c.if-other-arc.false, eq-eqb _ _ w.if-other-arc-2.true, ne_eqb _ _ w.if-other-arc-3.false)
      | else-other-arc-2-via-else-other-arc-2 w ↦ simp (eq-eqb _ _ c.if-other-arc.false, ne_eqb _ _ w.if-other-arc-2.false)
    ])

pub returns : goal.returns
returns c = sym (c.loop-n.invariant ∙ found_none c.args.before.now (arc_said c.args.arc) c.loop-n.n c.loop-n-test.false)
