-- At every turn the children among the states from this one on are linked.
use Rattle.trie_states.proofs.Linking.{Linking}
use Rattle.trie_states.proofs.children.link.Given as goal

abbrev pub invariant-loop-state : goal.invariant-loop-state
invariant-loop-state l = Linking l.tree l.states l.links l.state
