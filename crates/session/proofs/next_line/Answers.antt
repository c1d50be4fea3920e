-- The limit of readings, or what the calls come to.
use native.Mathlib.Omega.{arith}
use Rattle.session_calls.proofs.Fitting.{result_fits}
use Rattle.session.proofs.Next.{outcome-limit, outcome-result}
use Rattle.session.proofs.next_line.Goals as goal

pub returns-then-count-ge-MOST_READINGS : goal.returns-then-count-ge-MOST_READINGS
returns-then-count-ge-MOST_READINGS c = outcome-limit c.args.table.now c.args.query.now.bytes c.args.state c.args.stack.now c.args.output.now c.args.line.now (omega arith) _ _ c.limit_line.ensures

pub result_line-requires : goal.result_line-requires
result_line-requires c = (c.if-count-ge-MOST_READINGS.false, result_fits c.args.table.now _ _ c.args.state.calls c.args.state.run c.args.stack.now c.args.output.now _ _ c.make_calls-result.ensures.0 c.make_calls-result.ensures.2)

pub returns : goal.returns
returns c = outcome-result c.args.table.now c.args.query.now.bytes c.args.state c.args.stack.now c.args.output.now c.args.line.now c.if-count-ge-MOST_READINGS.false _ _ c.upper-upper.ensures c.lower-lower.ensures c.make_calls-result.result _ _ c.make_calls-result.ensures _ _ c.result_line.ensures
