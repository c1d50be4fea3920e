use Rattle.std.proofs.Common.{Ok, refl, ap, arith}
use Rattle.machine.specs.Reading.{held_of}
use Rattle.engine_step.specs.Setting.{query_by, table_by}
use Rattle.engine_search.proofs.Looping.{none_left, going_more, stop_answer, found-answer, refused-answer}
use Rattle.engine_search.proofs.take_steps.Goals as goal

pub returns-in-Some : goal.returns-in-Some
returns-in-Some c =
    let a = c.args in
    let x = a.setting in
    stop_answer (table_by x.setup x.classes.now x.initials.now x.terminals.now x.arcs.now) (query_by x.setup x.upper.now x.lower.now) a.run a.output.now a.allowance (held_of a.run a.stack.now) a.stack.now c.loop-answer.stack c.loop-answer.output c.loop-answer.at c.loop-answer.steps c.loop-answer.invariant _ c.in-Some.ensures _ refl _ refl

pub returns-in-Ok-Finds : goal.returns-in-Ok-Finds
returns-in-Ok-Finds c =
    let a = c.args in
    let x = a.setting in
    rw (c.in-Ok-Finds.next-is, c.in-Ok-Finds.length-is) (found-answer (table_by x.setup x.classes.now x.initials.now x.terminals.now x.arcs.now) (query_by x.setup x.upper.now x.lower.now) a.run a.output.now a.allowance (held_of a.run a.stack.now) a.stack.now c.loop-answer.stack c.loop-answer.output c.loop-answer.at c.loop-answer.steps c.loop-answer.invariant c.due_at.result c.due_at.ensures (none_left c.due_at.result c.in_default.not-Some) _ _ _ c.in-Ok-Finds.ensures _ _ (ap Ok c.in-Ok-Finds.field-0-is) _ refl)

pub returns-in-Err : goal.returns-in-Err
returns-in-Err c =
    let a = c.args in
    let x = a.setting in
    refused-answer (table_by x.setup x.classes.now x.initials.now x.terminals.now x.arcs.now) (query_by x.setup x.upper.now x.lower.now) a.run a.output.now a.allowance (held_of a.run a.stack.now) a.stack.now c.loop-answer.stack c.loop-answer.output c.loop-answer.at c.loop-answer.steps c.loop-answer.invariant c.due_at.result c.due_at.ensures (none_left c.due_at.result c.in_default.not-Some) _ _ _ c.in-Err.ensures _ refl _ c.refused.ensures

pub loop-answer-preserved : goal.loop-answer-preserved
loop-answer-preserved c =
    let a = c.args in
    let x = a.setting in
    rw c.in-Ok-Moved.next-is (going_more (table_by x.setup x.classes.now x.initials.now x.terminals.now x.arcs.now) (query_by x.setup x.upper.now x.lower.now) a.run a.output.now a.allowance (held_of a.run a.stack.now) a.stack.now c.loop-answer.stack c.loop-answer.output c.loop-answer.at c.loop-answer.steps c.loop-answer.invariant c.due_at.result c.due_at.ensures (none_left c.due_at.result c.in_default.not-Some) _ _ _ c.in-Ok-Moved.ensures (omega (arith, c.step.auto)) _ (ap Ok c.in-Ok-Moved.field-0-is))
