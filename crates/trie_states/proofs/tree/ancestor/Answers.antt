-- At every turn as many parents are left.
use Prim.Native.Nat.{◌+◌, ◌-◌}
use native.Mathlib.Omega.{arith}
use mathlib.Core.Path.{sym, ap, ◌∙◌}
use Rattle.trie_states.specs.Tree.{ancestor}
use Rattle.trie_states.proofs.Adding.{ancestor-more}
use Rattle.trie_states.proofs.tree.ancestor.Goals as goal

pub loop-preserved : goal.loop-preserved
loop-preserved c =
    let tree = c.args.tree.now in (
      omega (arith, c.from-at.ensures),
      ap (λ (s : _). ancestor tree s (c.args.above - (c.loop.counter + 1))) c.from-at.ensures ∙ sym (ancestor-more tree c.loop.at c.args.above c.loop.counter c.loop-test.true) ∙ c.loop.invariant.1,
    )
