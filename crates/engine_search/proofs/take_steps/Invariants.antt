use Rattle.std.proofs.Common.{◌-◌}
use Rattle.machine.specs.Reading.{held_of}
use Rattle.engine_step.specs.Setting.{query_by, table_by}
use Rattle.engine_search.proofs.Looping.{Going}
use Rattle.engine_search.proofs.take_steps.Given as goal

abbrev pub invariant-loop-answer : goal.invariant-loop-answer
invariant-loop-answer l =
    Going (table_by l.setting.setup l.setting.classes.now l.setting.initials.now l.setting.terminals.now l.setting.arcs.now) (query_by l.setting.setup l.setting.upper.now l.setting.lower.now) l.initial.at l.initial.output l.allowance (held_of l.initial.at l.initial.stack) l.initial.stack l.stack l.output l.at l.steps

abbrev pub decreases-loop-answer : goal.decreases-loop-answer
decreases-loop-answer l = l.allowance - l.steps
