-- The loop: each round keeps the count of cells and the states on cycles, and one in which a state dies leaves fewer alive.
use Rattle.std.proofs.Common.{◌≡◌, length}
use Rattle.engine_peel.specs.Peel.{Cyclic, living}
use Rattle.engine_peel.proofs.settle.Given as goal

abbrev pub invariant-loop : goal.invariant-loop
invariant-loop l = (length l.alive ≡ length l.initial.alive) × (Cyclic l.graph l.initial.alive → Cyclic l.graph l.alive)

abbrev pub decreases-loop : goal.decreases-loop
decreases-loop l = living l.alive
