-- At every turn the tree of the words so far stands in the row.
use mathlib.Core.List.{List}
use Rattle.lexicon.specs.Words.{Word}
use Rattle.lexicon.specs.Beginnings.{beginnings}
use Rattle.lexicon.proofs.Checking.{ReadTo}
use Rattle.trie_states.proofs.Growing.{Growing}
use Rattle.trie_states.proofs.tree.grow.Given as goal

abbrev pub invariant-loop-word : goal.invariant-loop-word
invariant-loop-word l =
    (so_far : List Word) × ReadTo l.words so_far l.before l.word-iterator.0.now l.states × Growing so_far (beginnings so_far) l.tree
