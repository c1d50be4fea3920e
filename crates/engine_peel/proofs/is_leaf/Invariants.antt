-- The loop: no arc before it leads to a state that is alive.
use Rattle.std.proofs.Common.{◌≡◌, ℕ, ◌+◌, ◌<◌, ◌≤◌, get_or}
use Rattle.std.specs.Prelude.{Some}
use Rattle.engine_graph.proofs.Targets.{target_at}
use Rattle.engine_peel.specs.Peel.{Lives}
use Rattle.engine_peel.proofs.is_leaf.Given as goal

abbrev pub invariant-loop-n : goal.invariant-loop-n
invariant-loop-n l =
    (goal.iterator-loop-n).can_next l.n-iterator × (goal.iterator-loop-n).is_finite l.n-iterator
    × (get_or l.graph.first.now l.q 0 ≤ l.n-iterator.start) × (l.n-iterator.end ≡ get_or l.graph.first.now (l.q + 1) 0)
    × ((n x : ℕ) → get_or l.graph.first.now l.q 0 ≤ n → n < l.n-iterator.start → target_at l.graph n ≡ Some x → Lives l.alive x → ⊥)
