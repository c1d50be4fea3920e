-- The loop: the targets of the state's idle arcs before it are met.
use Rattle.std.proofs.Common.{◌≡◌, ℕ, ◌+◌, ◌<◌, ◌≤◌, get_or}
use Rattle.engine_graph.proofs.Targets.{target_at}
use Rattle.engine_reach.specs.Reach.{Meets}
use Rattle.engine_reach.proofs.Marks.{Values}
use Rattle.engine_reach.proofs.Visits.follow.Given as goal

abbrev pub invariant-loop-n : goal.invariant-loop-n
invariant-loop-n l =
    (goal.iterator-loop-n).can_next l.n-iterator × (goal.iterator-loop-n).is_finite l.n-iterator
    × (get_or l.graph.first.now l.q 0 ≤ l.n-iterator.start) × (l.n-iterator.end ≡ get_or l.graph.first.now (l.q + 1) 0)
    × ((i : ℕ) → get_or l.graph.first.now l.q 0 ≤ i → i < l.n-iterator.start → i < get_or l.graph.first.now (l.q + 1) 0)
    × Meets (Values (target_at l.graph) (get_or l.graph.first.now l.q 0) l.n-iterator.start) l.initial.self.met l.initial.self.order l.initial.self.count l.self.met l.self.order l.self.count
