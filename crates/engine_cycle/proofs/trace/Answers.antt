-- The loop: the states so far, and a layer to go to.
use Rattle.std.proofs.Common.{arith}
use Rattle.engine_cycle.proofs.Way.{way-begins, way-inside, way-goes_on, way-ends}
use Rattle.engine_cycle.proofs.trace.Goals as goal

pub loop-n-init : goal.loop-n-init
loop-n-init c = way-begins c.args.graph.now c.args.s c.args.numbers.now c.args.count c.requires.layers_to _ (omega arith)

pub lowest-requires : goal.lowest-requires
lowest-requires c = omega (arith, c.from.ensures, way-inside c.args.graph.now c.args.s c.args.numbers.now c.args.count c.requires.layers_to c.loop-n.invariant (omega arith))

pub loop-n-preserved : goal.loop-n-preserved
loop-n-preserved c =
    way-goes_on c.args.graph.now c.args.s c.args.numbers.now c.args.count c.requires.layers_to c.loop-n.invariant (omega arith) c.from-in-loop-n.result c.from.result _ c.from-in-loop-n.ensures c.from.ensures (omega arith) c.lowest.result c.lowest.ensures c.unwrap-next.result c.unwrap-next.ensures

pub returns : goal.returns
returns c = way-ends c.args.graph.now c.args.s c.args.numbers.now c.args.count c.requires.layers_to c.loop-n.invariant c.from-2.result c.from-2.ensures (omega arith)
