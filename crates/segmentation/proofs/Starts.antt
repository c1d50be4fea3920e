-- No start on cells that begin with the letter tree's table is refused with 12.
use Prim.Native.Nat.{ℕ}
use native.Mathlib.Omega.{arith}
use mathlib.Core.Path.{◌≡◌, sym, ap, subst, ◌∙◌}
use mathlib.Core.Option.{Option, none, some}
use mathlib.Core.List.{List, ◌++◌}
use Rattle.table_format.specs.Table.{Table}
use Rattle.table_format.specs.Loaded.{cells_of}
use Rattle.machine.specs.declared.Started.{Started}
use Rattle.machine.specs.Query.{Query, Task, task_of}
use Rattle.machine.specs.Asked.{runs, asked_task, asked_table, asked}
use Rattle.machine.specs.Idle.{StateReached, IdleWalk}
use Rattle.machine.specs.Start.{started, start_told_by, StartedIs}
use Rattle.machine.proofs.Asked.{words-facts}
use Rattle.machine.proofs.Headlines as machines
use Rattle.lexicon.specs.Words.{Word}
use Rattle.lexicon.specs.Beginnings.{beginnings}
use Rattle.lexicon.specs.FirstBad.{Kept}
use Rattle.trie_format.specs.Trie.{trie_table}
use Rattle.trie_format.proofs.Names.{names}
use Rattle.trie_format.proofs.Headlines.{trie_loaded}
use Rattle.segmentation.proofs.Idle.{no_idle-cycle}

asked-on : (t u : Table) (o : Option Task) (q : Query) (upper lower : List ℕ) (ceiling : ℕ) → asked_task t o upper lower ceiling ≡ runs u q → t ≡ u
asked-on t u none q upper lower ceiling e = absurd (let z : ◌≡◌ {A = ℕ} 0 1 = cc in omega arith)
asked-on t u (some k) q upper lower ceiling e = let p : Query = record { task = k; upper_word = upper; lower_word = lower; ceiling = ceiling } in (words-facts t u p q e).0

pub never-twelve : (ws : List Word) → Kept ws → (rest : List ℕ) (task : ℕ) (upper lower : List ℕ) (ceiling : ℕ) (s : Started)
    → StartedIs (started (cells_of (trie_table ws) ++ rest) task upper lower ceiling) s → (start_told_by s).number ≡ 12 → ⊥
unfolding asked
never-twelve ws K rest task upper lower ceiling s S e =
    let W = (machines.twelve (cells_of (trie_table ws) ++ rest) task upper lower ceiling s S).0 e in
    let t : trie_table ws ≡ W.0 =
    asked-on (trie_table ws) W.0 (task_of task) W.1 upper lower ceiling (sym (ap (λ (o : Option Table). asked_table o task upper lower ceiling) (trie_loaded ws K rest)) ∙ W.2) in
    no_idle-cycle ws (beginnings ws) (names ws K.holds) W.1.task W.3.0
    (subst (λ (u : Table). StateReached u W.3.0) (sym t) W.3.1)
    (subst (λ (u : Table). IdleWalk u W.1.task W.3.0 W.3.0) (sym t) W.3.2)
