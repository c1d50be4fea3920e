-- At every turn the letters so far stand at the front of the word.
use Prim.Native.Nat.{◌-◌}
use lib.ListN.{length}
use Rattle.wordlist_spelling.proofs.Told.{SoFar}
use Rattle.wordlist_spelling.proofs.spell.Given as goal

abbrev pub invariant-loop-at : goal.invariant-loop-at
invariant-loop-at l = SoFar l.line l.initial.word l.word l.letters l.at

abbrev pub decreases-loop-at : goal.decreases-loop-at
decreases-loop-at l = length l.line - l.at
