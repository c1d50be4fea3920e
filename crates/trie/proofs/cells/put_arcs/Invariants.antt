-- At every turn the arcs of the states to come stand behind those that are there.
use Rattle.trie.proofs.Storing.{LayingAll}
use Rattle.trie.proofs.cells.put_arcs.Given as goal

abbrev pub invariant-loop-state : goal.invariant-loop-state
invariant-loop-state l = LayingAll l.tree l.links l.initial.cells l.at l.states l.cells l.to l.state
