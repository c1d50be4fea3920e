-- At every turn the children among the states from this one on are linked.
use native.Mathlib.Omega.{arith}
use Prim.Native.Nat.{◌-◌}
use Rattle.trie_states.proofs.Linking.{linking_none, linking_more, put}
use Rattle.trie_states.proofs.children.link.Goals as goal

pub loop-state-init : goal.loop-state-init
loop-state-init c = linking_none c.args.tree.now c.args.states c.requires.0

pub loop-state-preserved : goal.loop-state-preserved
loop-state-preserved c =
    let L = c.loop-state.invariant in
    linking_more _ _ _ _ L c.requires.1 (c.loop-state.state - 1) (omega arith) (omega arith) _ c.from-parent.ensures (omega (arith, c.from-parent.ensures)) _
    (put _ _ _ (omega (arith, L.links-all, L.within, c.requires.1)) (omega (arith, L.links-all, c.from-parent.ensures)))
