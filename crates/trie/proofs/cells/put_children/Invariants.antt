-- At every turn the arcs to come stand behind those that are there.
use Rattle.trie_states.specs.Tree.{letter_of, first_of, next_of, child_arc}
use Rattle.trie.proofs.Storing.{GoingAll, steps_left}
use Rattle.trie.proofs.cells.put_children.Given as goal

abbrev pub invariant-loop-next : goal.invariant-loop-next
invariant-loop-next l =
    GoingAll (child_arc (letter_of l.tree) l.state) (next_of l.links) l.initial.cells l.at (first_of l.links l.state) l.cells l.to l.next

abbrev pub decreases-loop-next : goal.decreases-loop-next
decreases-loop-next l = steps_left l.next
