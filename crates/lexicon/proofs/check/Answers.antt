-- At every turn the words so far hold, and the bytes that are left decide.
use mathlib.Core.Path.{◌≡◌, sym, ap, ◌∙◌}
use mathlib.Core.List.{[]}
use lib.ListN.{length}
use borrow.Author.Tests.{eqb-true, eqb-false}
use Rattle.std.proofs.Common.{rules, Ok, Err}
use Rattle.lexicon.specs.Check.{listing}
use Rattle.lexicon.proofs.Checking.{read_none, read_done, read-cut, read-fault, read_more}
use Rattle.lexicon.proofs.check.Goals as goal

pub loop-word-init : goal.loop-word-init
loop-word-init c = ([], read_none c.args.words.now)

pub returns-in_err-states : goal.returns-in_err-states
returns-in_err-states c =
    let e : c.from_residual.result ≡ Err c.in_err-states.field-0.0 = search rules in
    e ∙ sym (ap listing (read-fault _ _ _ _ _ c.loop-word.invariant.1 _ _ c.in-Some.ensures.steps c.in_err-states.field-0.0 (sym c.judge.ensures ∙ c.in_err-states.was)))

pub loop-word-preserved : goal.loop-word-preserved
loop-word-preserved c =
    (_, read_more _ _ _ _ _ c.loop-word.invariant.1 _ _ c.in-Some.ensures.steps c.in_ok-states.states (sym c.judge.ensures ∙ c.in_ok-states.was))

pub returns-then-is_empty : goal.returns-then-is_empty
returns-then-is_empty c =
    let left = c.in_default.ensures.steps in
    ap Ok c.loop-word.invariant.1.count ∙ sym (ap listing (read_done _ _ _ _ _ c.loop-word.invariant.1 (sym (ap length left.0) ∙ eqb-true _ _ (sym c.is_empty.ensures ∙ c.if-is_empty.true))))

pub returns-else-is_empty : goal.returns-else-is_empty
returns-else-is_empty c =
    let left = c.in_default.ensures.steps in
    sym (ap listing (read-cut _ _ _ _ _ c.loop-word.invariant.1 left.1 (λ e. eqb-false _ _ (sym c.is_empty.ensures ∙ c.if-is_empty.false) (ap length left.0 ∙ e))))
