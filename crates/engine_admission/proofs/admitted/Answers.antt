-- By whether the task, the words and the ceiling hold.
use Rattle.std.proofs.Common.{arith, refl, sym, ◌∙◌, true, false}
use borrow.Author.Tests.{le-leb, lt-leb}
use Rattle.machine.specs.Query.{most_ceiling}
use Rattle.engine_admission.proofs.Words.{admitted_by}
use Rattle.engine_admission.proofs.admitted.Goals as goal

pub returns-then-not-task_holds : goal.returns-then-not-task_holds
returns-then-not-task_holds c = λ cells e. admitted_by _ _ _ _ cells e false _ _ (sym c.if-not-task_holds.true ∙ c.task_holds.ensures) refl refl

pub returns-then-not-words_hold : goal.returns-then-not-words_hold
returns-then-not-words_hold c = λ cells e. admitted_by _ _ _ _ cells e true false _ (sym c.if-not-task_holds.false ∙ c.task_holds.ensures) (sym c.if-not-words_hold.true ∙ c.words_hold.ensures) refl

pub returns-then-ceiling-gt-MOST_CEILING : goal.returns-then-ceiling-gt-MOST_CEILING
returns-then-ceiling-gt-MOST_CEILING c = λ cells e. admitted_by _ _ _ _ cells e true true false (sym c.if-not-task_holds.false ∙ c.task_holds.ensures) (sym c.if-not-words_hold.false ∙ c.words_hold.ensures) (sym (lt-leb c.args.ceiling most_ceiling (omega arith)))

pub returns : goal.returns
returns c = λ cells e. admitted_by _ _ _ _ cells e true true true (sym c.if-not-task_holds.false ∙ c.task_holds.ensures) (sym c.if-not-words_hold.false ∙ c.words_hold.ensures) (sym (le-leb c.args.ceiling most_ceiling (omega arith)))
