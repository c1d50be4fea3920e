-- 24 where the text as it is shown has no room; else, at every turn, the characters so far are shown.
use Rattle.alphabet.proofs.Showing.{Showing}
use Rattle.alphabet.proofs.show.show.Given as goal

abbrev pub invariant-loop-c : goal.invariant-loop-c
invariant-loop-c l = Showing l.text l.initial.destination l.destination l.at l.c-index
