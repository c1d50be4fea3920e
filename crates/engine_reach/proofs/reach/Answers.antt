-- The initial states, then all that arcs lead to from them.
use Rattle.std.proofs.Common.{arith, refl}
use Rattle.engine_reach.proofs.Marks.{values-begin, values-more, meets_list, first-within, none_met_lem, reached-cells}
use Rattle.machine.proofs.Transducer.{at_mem}
use Rattle.engine_reach.proofs.reach.Goals as goal

pub loop-state-init : goal.loop-state-init
loop-state-init c = values-begin _ 0 0 _ _ _ (omega arith)

pub visit-requires : goal.visit-requires
visit-requires c = omega (arith, c.requires _ (at_mem c.args.initials.now c.loop-state.state-index 0 (omega arith)), c.args.graph.now.graph.few)

pub loop-state-preserved : goal.loop-state-preserved
loop-state-preserved c = values-more _ 0 c.loop-state.state-index _ (omega arith) refl c.loop-state.invariant c.visit.ensures

pub spread-requires : goal.spread-requires
spread-requires c = first-within (none_met_lem c.none-visits.ensures.0) c.args.graph.now.states c.requires (meets_list c.args.initials.now c.loop-state.state-index c.loop-state-test.false c.loop-state.auto.state-index-end c.loop-state.invariant)

pub returns : goal.returns
returns c = reached-cells (none_met_lem c.none-visits.ensures.0) c.args.graph.now.arcs.now c.args.initials.now (meets_list c.args.initials.now c.loop-state.state-index c.loop-state-test.false c.loop-state.auto.state-index-end c.loop-state.invariant) c.spread.ensures
