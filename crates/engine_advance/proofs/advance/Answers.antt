use Rattle.std.proofs.Common.{ap, ◌∙◌}
use Rattle.machine.specs.declared.Answer.TheVariants.{Refused}
use Rattle.refusal.specs.declared.Refusal.{Refusal}
use Rattle.engine_search.specs.Searching.{called_with}
use Rattle.table_check.proofs.Passing.{laid, passed, failed}
use Rattle.engine_admission.proofs.Words.{asking_table, asking_turned, asking_passes}
use Rattle.engine_advance.proofs.Resuming.{turned-outcome, admitted_by}
use Rattle.engine_advance.proofs.advance.Goals as goal

pub returns-in_default : goal.returns-in_default
returns-in_default c =
    let a = c.args in
    turned-outcome a.table.now a.upper.now a.lower.now a.run a.stack.now a.allowance a.output.now _ (asking_table a.table.now a.run.task a.upper.now a.lower.now a.run.ceiling (failed a.table.now _ c.in_default.ensures)) _ (c.refused.ensures ∙ ap (λ (r : Refusal). called_with (Refused 0 r) a.run) c.into.ensures)

pub returns-in-Err : goal.returns-in-Err
returns-in-Err c =
    let a = c.args in
    turned-outcome a.table.now a.upper.now a.lower.now a.run a.stack.now a.allowance a.output.now _ (asking_turned _ _ (c.in-Err.ensures a.table.now (passed a.table.now c.in-Ok.checked c.in-Ok.ensures))) _ (c.refused-in-Err.ensures ∙ ap (λ (r : Refusal). called_with (Refused 0 r) a.run) c.into-in-Err.ensures)

pub resume-requires-clause-admitted : goal.resume-requires-clause-admitted
resume-requires-clause-admitted c =
    let a = c.args in
    let loads = passed a.table.now c.in-Ok.checked c.in-Ok.ensures in
    admitted_by a.table.now a.run.task a.upper.now a.lower.now a.run.ceiling c.in-Ok.checked (asking_passes a.run.task a.upper.now a.lower.now a.run.ceiling a.table.now loads (c.in_default-admitted.ensures a.table.now loads)) c.in-Ok.ensures

pub resume-requires-clause-layout : goal.resume-requires-clause-layout
resume-requires-clause-layout c = laid c.args.table.now c.in-Ok.checked c.in-Ok.ensures

pub rows-classes-requires : goal.rows-classes-requires
rows-classes-requires c = passed c.args.table.now c.in-Ok.checked c.in-Ok.ensures

pub resume-requires-clause-rows : goal.resume-requires-clause-rows
resume-requires-clause-rows c = c.rows-classes.ensures
