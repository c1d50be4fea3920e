-- The loop: of the targets of the state's arcs before it, the lowest with the number.
use Rattle.std.proofs.Common.{◌≡◌, ℕ, ◌+◌, ◌<◌, ◌≤◌, get_or}
use Rattle.engine_cycle.proofs.Targets.{Least}
use Rattle.engine_cycle.proofs.lowest.Given as goal

abbrev pub invariant-loop-n : goal.invariant-loop-n
invariant-loop-n l =
    (goal.iterator-loop-n).can_next l.n-iterator × (goal.iterator-loop-n).is_finite l.n-iterator
    × (get_or l.graph.first.now l.q 0 ≤ l.n-iterator.start) × (l.n-iterator.end ≡ get_or l.graph.first.now (l.q + 1) 0)
    × ((i : ℕ) → get_or l.graph.first.now l.q 0 ≤ i → i < l.n-iterator.start → i < get_or l.graph.first.now (l.q + 1) 0)
    × Least l.graph l.numbers l.far l.q l.n-iterator.start l.lowest
