-- No task has an idle cycle on the letter tree's table: an idle arc leads to the root, and none leaves it.
use Prim.Native.Nat.{ℕ, zero, suc, ◌≤◌, ◌<◌}
use native.Mathlib.Omega.{arith}
use mathlib.Core.Path.{◌≡◌, sym, ◌∙◌}
use mathlib.Core.Logic.{inl, inr}
use mathlib.Core.Bool.{true, ◌&&◌, false≢true}
use mathlib.Core.List.{List, [], ◌∷◌}
use Rattle.table_format.specs.Table.{Arc}
use Rattle.table_format.proofs.All.{all-mem}
use Rattle.graph.specs.Walk.{Through}
use Rattle.machine.specs.Query.{Task, recognition, synthesis, analysis, upper_side, lower_side, reads}
use Rattle.machine.specs.Idle.{side_idle, idle, IdleArc, NoIdleCycle}
use Rattle.lexicon.specs.Words.{Word}
use Rattle.trie_format.specs.Trie.{table_on}
use Rattle.trie_format.proofs.Names.{Names}
use Rattle.trie_format.specs.Facts.{TreeArc}
use Rattle.trie_format.proofs.Shapes.{end-above, arcs_shape}

-- an arc with two letters is idle for no task
not-idle : (k : Task) (u l : ℕ) → 1 ≤ u → 1 ≤ l → (side_idle (reads k upper_side) u && side_idle (reads k lower_side) l) ≡ true → ⊥
not-idle k zero l h i e = omega arith
not-idle k (suc u) zero h i e = omega arith
not-idle recognition (suc u) (suc l) h i e = false≢true e
not-idle synthesis (suc u) (suc l) h i e = false≢true e
not-idle analysis (suc u) (suc l) h i e = false≢true e

module _ (ws bs : List Word) (N : Names ws bs) (k : Task) where
  idle-arc : (a : Arc) → TreeArc ws bs a → idle k a ≡ true → (0 < a.source) × (a.target ≡ 0)
  idle-arc a (inl S) e = absurd (not-idle k a.upper a.lower (omega (arith, S.same, S.low)) S.low e)
  idle-arc a (inr S) e = (end-above ws bs N a S, S.to-root)

  idle-leads : (s r : ℕ) → IdleArc (table_on ws bs) k s r → (0 < s) × (r ≡ 0)
  idle-leads s r A =
      let I = idle-arc A.arc (all-mem (TreeArc ws bs) (table_on ws bs).arcs (arcs_shape ws bs) A.arc A.listed) A.passes in
      (omega (arith, I.0, A.from), sym A.to ∙ I.1)

  idle-walk : (l : List ℕ) (s r : ℕ) → Through (IdleArc (table_on ws bs) k) s l r → (0 < s) × (r ≡ 0)
  idle-walk [] s r A = idle-leads s r A
  idle-walk (x ∷ l) s r A = ((idle-leads s x A.0).0, (idle-walk l x r A.1).1)

  pub no_idle-cycle : NoIdleCycle (table_on ws bs) k
  no_idle-cycle s reached W = let R = idle-walk W.0 s s W.1 in omega (arith, R.0, R.1)
