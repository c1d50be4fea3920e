-- At every turn as many parents are left.
use Prim.Native.Nat.{◌-◌, ◌<◌}
use mathlib.Core.Path.{◌≡◌}
use Rattle.lexicon.specs.Lexicon.{most_states}
use Rattle.trie_states.specs.Tree.{ancestor}
use Rattle.trie_states.proofs.tree.ancestor.Given as goal

abbrev pub invariant-loop : goal.invariant-loop
invariant-loop l = (l.at < most_states) × (ancestor l.tree l.at (l.above - l.counter) ≡ ancestor l.tree l.state l.above)
