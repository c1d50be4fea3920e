-- At every turn the states to come stand behind those that are there.
use mathlib.Core.Bool.{cond}
use mathlib.Core.List.{[], ◌∷◌}
use lib.ListN.{length}
use Rattle.trie_states.specs.Tree.{ends_at}
use Rattle.trie.proofs.Storing.{Laying}
use Rattle.trie.proofs.cells.put_terminals.Given as goal

abbrev pub invariant-loop-state : goal.invariant-loop-state
invariant-loop-state l = Laying (λ i. cond (ends_at l.tree i) (i ∷ []) []) l.initial.cells l.at (length l.tree) l.cells l.to l.state
