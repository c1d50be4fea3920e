-- At every turn the states to come stand behind those that are there.
use Rattle.trie_states.proofs.Adding.{Adding}
use Rattle.trie_states.proofs.tree.add.Given as goal

abbrev pub invariant-loop-k : goal.invariant-loop-k
invariant-loop-k l = Adding l.letters l.initial.tree l.parent l.states l.tree l.above l.k
