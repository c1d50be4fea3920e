-- The loop: the states from q on had their turn.
use Rattle.engine_peel.proofs.Rounds.{Round}
use Rattle.engine_peel.proofs.peel.Given as goal

abbrev pub invariant-loop-q : goal.invariant-loop-q
invariant-loop-q l = Round l.graph l.initial.alive l.alive l.q l.died
