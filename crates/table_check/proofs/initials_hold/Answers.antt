use native.Mathlib.Omega.{arith}
use mathlib.Core.Path.{refl, sym, ap, ◌∙◌}
use Rattle.std.specs.Prelude.{is_err}
use Rattle.table_format.specs.Rules.{each, initial_faults}
use Rattle.table_rules.specs.Judge.{largest, state_key}
use Rattle.table_rules.proofs.Turn.{keep-more, keep-fails, top-more}
use Rattle.table_check.proofs.initials_hold.Goals as goal

pub loop-k-init : goal.loop-k-init
unfolding largest each
loop-k-init c = (omega arith, refl)

pub returns-then-is_err : goal.returns-then-is_err
returns-then-is_err c = sym (keep-fails (initial_faults c.args.states) 0 c.args.list.now c.loop-k.k c.loop-k-test.true (sym (ap is_err c.initial_fault.ensures) ∙ sym c.is_err.ensures.value ∙ c.if-is_err.true))

pub loop-k-preserved : goal.loop-k-preserved
loop-k-preserved c = (
  top-more state_key 0 c.args.list.now c.loop-k.k c.max-top.result c.loop-k-test.true (omega arith) (omega (arith, c.state_key.ensures)),
  keep-more (initial_faults c.args.states) 0 c.args.list.now c.loop-k.k c.loop-k-test.true c.loop-k.invariant.1 (sym (ap is_err c.initial_fault.ensures) ∙ sym c.is_err.ensures.value ∙ c.if-is_err.false),
)
