-- The loop: the arcs of the first states that were met are followed.
use Rattle.std.proofs.Common.{arith}
use Rattle.engine_graph.specs.Edge.{EdgeIn}
use Rattle.engine_graph.proofs.Targets.{edges_among}
use Rattle.engine_reach.proofs.Marks.{search_inside, search_goes_on, search_ends}
use Rattle.engine_reach.proofs.Visits.spread.Goals as goal

pub follow-requires : goal.follow-requires
follow-requires c = let g = c.args.graph.now in omega (arith, c.from.ensures, search_inside (EdgeIn g) c.args.self.now.met c.loop-done.invariant c.loop-done.self.listed g.states (edges_among g) c.requires c.loop-done-test.true)

pub loop-done-preserved : goal.loop-done-preserved
loop-done-preserved c = search_goes_on (EdgeIn c.args.graph.now) c.args.self.now.met c.loop-done.invariant c.loop-done.self.listed c.from.result c.from.ensures c.loop-done-test.true c.follow.ensures

pub returns : goal.returns
returns c = search_ends (EdgeIn c.args.graph.now) c.args.self.now.met c.loop-done.invariant c.loop-done.self.listed c.loop-done-test.false
