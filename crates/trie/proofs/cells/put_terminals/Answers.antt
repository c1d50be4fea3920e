-- At every turn the states to come stand behind those that are there.
use Prim.Native.Nat.{ℕ, ◌+◌}
use native.Mathlib.Omega.{arith}
use mathlib.Core.Path.{◌≡◌, sym, ap, ◌∙◌}
use mathlib.Core.Bool.{cond}
use mathlib.Core.List.{List, [], ◌∷◌}
use lib.ListN.{length}
use lib.Seq.{sets}
use Rattle.trie_states.specs.Tree.{ends_at}
use Rattle.trie.proofs.Storing.{laying_more, when_true, when_false}
use Rattle.trie.proofs.cells.put_terminals.Goals as goal
use Rattle.trie.proofs.cells.put_terminals.Goals.{then-row, else-row}

pub loop-state-preserved : goal.loop-state-preserved
loop-state-preserved c =
    let tree = c.args.tree.now in
    let state = c.loop-state.state in
    let L = laying_more (λ i. cond (ends_at tree i) (i ∷ []) []) c.args.cells.now c.args.at (length tree) c.loop-state.cells c.loop-state.to state c.loop-state.invariant c.loop-state-test.true in
    elim c.if-row.branch [
      | then-row w ↦
          let put : cond (ends_at tree state) (state ∷ []) [] ≡ state ∷ [] = when_true _ _ w.if-row.true in
          L _ _ (w.cells-is ∙ sym (ap (sets c.loop-state.cells c.loop-state.to) put)) (w.to-is ∙ sym (ap (λ (l : List ℕ). c.loop-state.to + length l) put))
      | else-row w ↦
          let put : cond (ends_at tree state) (state ∷ []) [] ≡ [] = when_false _ _ w.if-row.false in
          L _ _ (w.cells-is ∙ sym (ap (sets c.loop-state.cells c.loop-state.to) put)) (omega (arith, w.to-is, ap length put))
    ]
