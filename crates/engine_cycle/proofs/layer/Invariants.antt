-- The loop: the states below q had their turn.
use Rattle.engine_cycle.proofs.Rounds.{Turned}
use Rattle.engine_cycle.proofs.layer.Given as goal

abbrev pub invariant-loop-q : goal.invariant-loop-q
invariant-loop-q l = Turned l.graph l.far l.initial.numbers l.numbers l.q
