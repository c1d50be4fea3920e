-- The loop: the arcs of the first states that were met are followed.
use Rattle.std.proofs.Common.{◌-◌}
use Rattle.engine_graph.specs.Edge.{EdgeIn}
use Rattle.engine_reach.proofs.Marks.{Search}
use Rattle.engine_reach.proofs.Visits.spread.Given as goal

abbrev pub invariant-loop-done : goal.invariant-loop-done
invariant-loop-done l = Search (EdgeIn l.graph) l.initial.self.met l.self.met l.self.order l.self.count l.done

abbrev pub decreases-loop-done : goal.decreases-loop-done
decreases-loop-done l = 256 - l.done
