-- Where idle arcs lead from the state, then all that they lead to from there.
use Rattle.engine_graph.specs.Edge.{EdgeIn}
use Rattle.engine_graph.proofs.Targets.{edges_among}
use Rattle.engine_reach.proofs.Marks.{first-within, none_met_lem, back-again}
use Rattle.engine_reach.proofs.returns.Goals as goal

pub spread-requires : goal.spread-requires
spread-requires c = first-within (none_met_lem c.none-visits.ensures.0) c.args.graph.now.states (λ s E. (edges_among c.args.graph.now _ s E).1) c.follow.ensures

pub returns : goal.returns
returns c = back-again (none_met_lem c.none-visits.ensures.0) (EdgeIn c.args.graph.now) c.args.q c.follow.ensures c.spread.ensures
