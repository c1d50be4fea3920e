-- The loop: no state below s is reached and on an idle cycle.
use Rattle.engine_idle.proofs.Cycles.{looped-more, lowest-found, lowest-none}
use Rattle.engine_idle.proofs.lowest.Goals as goal

pub returns-then-looped : goal.returns-then-looped
returns-then-looped c = lowest-found c.args.graph.now c.args.reached.now c.loop-s.s c.loop-s-test.true (c.looped.ensures.0 c.if-looped.true) c.loop-s.invariant

pub loop-s-preserved : goal.loop-s-preserved
loop-s-preserved c = looped-more c.args.graph.now c.args.reached.now c.loop-s.s c.looped.result c.looped.ensures c.if-looped.false c.loop-s.invariant

pub returns : goal.returns
returns c = lowest-none c.args.graph.now c.args.reached.now c.loop-s.s c.loop-s-test.false c.loop-s.invariant
