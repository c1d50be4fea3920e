use Rattle.std.proofs.Common.{rules, ℕ, ◌-◌, Option, Ok, refl, sym, ap, arith}
use Rattle.engine_step.proofs.Bounds.{top_of}
use Rattle.engine_step.proofs.Turns.{turn_as, drop-turn, skip_turn, drop-deep, skip_deep, skip_next, pushable, push_turn}
use Rattle.engine_step.proofs.step.Goals as goal

pub choose-requires-clause-top : goal.choose-requires-clause-top
choose-requires-clause-top c = let a = c.args in let p = c.requires in top_of p.prepared a.run.started a.run.depth a.stack.now p.good p.started_in_bounds

pub overflow_sub-result : goal.overflow_sub-result
overflow_sub-result c = let a = c.args in let p = c.requires in drop-deep p.prepared a.run a.run.started a.run.depth a.stack.now p.good p.started_in_bounds c.in-Drops.ensures

pub overflow_sub-run : goal.overflow_sub-run
overflow_sub-run c = let a = c.args in let p = c.requires in skip_deep p.prepared a.run a.run.started a.run.depth a.stack.now p.good p.started_in_bounds c.in-Skips.ensures

pub count_tried-requires-clause-i_bound : goal.count_tried-requires-clause-i_bound
count_tried-requires-clause-i_bound c =
    let a = c.args in
    let p = c.requires in
    let h = skip_deep p.prepared a.run a.run.started a.run.depth a.stack.now p.good p.started_in_bounds c.in-Skips.ensures in
    omega (arith, p.good.deep)

pub count_tried-requires-clause-i_bound_2 : goal.count_tried-requires-clause-i_bound_2
count_tried-requires-clause-i_bound_2 c =
    let a = c.args in
    let p = c.requires in
    let h = skip_deep p.prepared a.run a.run.started a.run.depth a.stack.now p.good p.started_in_bounds c.in-Skips.ensures in
    omega (arith, skip_next p.prepared a.run a.run.started a.run.depth a.stack.now p.good p.started_in_bounds (a.run.depth - 1) (omega arith))

pub push-requires-clause-pushable : goal.push-requires-clause-pushable
push-requires-clause-pushable c = let a = c.args in let p = c.requires in
    (pushable p.prepared a.run a.run.started a.run.depth a.stack.now p.good p.started_in_bounds a.output.now _ c.in-Pushes.ensures).1

pub returns-in-Drops : goal.returns-in-Drops
returns-in-Drops c = let a = c.args in let p = c.requires in drop-turn p.prepared a.run a.run.started a.run.depth a.stack.now p.good p.started_in_bounds a.output.now c.in-Drops.ensures _ refl

pub returns-in-Skips : goal.returns-in-Skips
returns-in-Skips c = let a = c.args in let p = c.requires in skip_turn p.prepared a.run a.run.started a.run.depth a.stack.now p.good p.started_in_bounds a.output.now c.in-Skips.ensures _ c.count_tried.ensures

pub returns-in_err-accepted-in-Pushes : goal.returns-in_err-accepted-in-Pushes
returns-in_err-accepted-in-Pushes c =
    let a = c.args in
    let p = c.requires in
    let e = c.in_err-accepted-in-Pushes.ensures in
    push_turn p.prepared a.run a.run.started a.run.depth a.stack.now p.good p.started_in_bounds a.output.now _ c.in-Pushes.ensures _ _ _ _ e.0 e.1 e.2 (search rules)

pub returns-in-None : goal.returns-in-None
returns-in-None c =
    let a = c.args in
    let p = c.requires in
    let e = c.in_ok-accepted-in-Pushes.ensures in
    push_turn p.prepared a.run a.run.started a.run.depth a.stack.now p.good p.started_in_bounds a.output.now _ c.in-Pushes.ensures (Ok c.in_ok-accepted-in-Pushes.accepted) _ _ _ e.0 e.1 e.2
    (ap (λ (o : Option ℕ). turn_as a.run c.in-Pushes.added.started c.in-Pushes.added.depth (Ok o)) (sym c.in-None.is))

pub returns-in-Some : goal.returns-in-Some
returns-in-Some c =
    let a = c.args in
    let p = c.requires in
    let e = c.in_ok-accepted-in-Pushes.ensures in
    push_turn p.prepared a.run a.run.started a.run.depth a.stack.now p.good p.started_in_bounds a.output.now _ c.in-Pushes.ensures (Ok c.in_ok-accepted-in-Pushes.accepted) _ _ _ e.0 e.1 e.2
    (ap (λ (o : Option ℕ). turn_as a.run c.in-Pushes.added.started c.in-Pushes.added.depth (Ok o)) (sym c.in-Some.is))
