-- At every turn the words so far hold, and the bytes that are left decide.
use mathlib.Core.List.{List}
use lib.ListN.{length}
use Rattle.lexicon.specs.Words.{Word}
use Rattle.lexicon.proofs.Checking.{ReadTo}
use Rattle.lexicon.proofs.check.Given as goal

abbrev pub invariant-loop-word : goal.invariant-loop-word
invariant-loop-word l = (so_far : List Word) × ReadTo l.words so_far l.before l.listed.0.now l.states

abbrev pub decreases-loop-word : goal.decreases-loop-word
decreases-loop-word l = length l.listed.0.now
