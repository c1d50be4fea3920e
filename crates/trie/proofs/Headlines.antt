-- The theorems about the call that builds a table from a list of words, stated together. What each one means is in specs/; how it is shown is in
-- Calls.
use Prim.Native.Nat.{ℕ, ◌≤◌, ◌<◌}
use mathlib.Core.Path.{◌≡◌, ap, subst, ◌∙◌}
use mathlib.Core.Logic.{◌↔◌}
use mathlib.Core.Option.{some}
use mathlib.Core.List.{List, ◌++◌}
use lib.ListN.{length, drop}
use Rattle.refusal.specs.declared.InputCause.{InputCause}
use Rattle.refusal.specs.declared.StateCause.TheVariants.{DestinationShort}
use Rattle.refusal.specs.declared.Refusal.{Refusal}
use Rattle.refusal.specs.declared.Refusal.TheVariants.{Input, State}
use Rattle.std.specs.Prelude.{Ok, Err}
use Rattle.table_format.specs.Loaded.{cells_of, loaded}
use Rattle.lexicon.specs.Words.{Word}
use Rattle.lexicon.specs.Lexicon.{TakenAs}
use Rattle.lexicon.specs.FirstBad.{FirstBad}
use Rattle.lexicon.proofs.Headlines as lists
use Rattle.trie_format.specs.Trie.{trie_table}
use Rattle.trie_format.proofs.Headlines.{trie_loaded}
use Rattle.trie.specs.Calls.{build_answer, build_cells}
use Rattle.trie.proofs.Calls as calls

module _ (bytes d : List ℕ) where
  -- DONE, with so many cells, exactly for a list that is taken, whose table fits.
  pub build_is : (n : ℕ) → (build_answer bytes d ≡ Ok n) ↔ ((ws : List Word) × TakenAs bytes ws × (n ≡ length (cells_of (trie_table ws))) × (n ≤ length d))
  build_is = calls.build_is bytes d

  -- The table's cells stand at the front, and what stood behind them is left.
  pub build_leaves : (ws : List Word) → TakenAs bytes ws → length (cells_of (trie_table ws)) ≤ length d → build_cells bytes d ≡ cells_of (trie_table ws) ++ drop (length (cells_of (trie_table ws))) d
  build_leaves = calls.build_leaves bytes d

  -- so that it is loaded as the table.
  pub build_loaded : (n : ℕ) → build_answer bytes d ≡ Ok n → (ws : List Word) × TakenAs bytes ws × (loaded (build_cells bytes d) ≡ some (trie_table ws))
  build_loaded n e =
      let R = (build_is n).0 e in
      let ws = R.0 in
      (ws, R.1, ap loaded (build_leaves ws R.1 (subst (λ (k : ℕ). k ≤ length d) R.2 R.3)) ∙ trie_loaded ws ((lists.taken bytes ws).0 R.1).0 _)

  -- 30, 31, 32 exactly for a list whose earliest bad word earns it, whatever the destination,
  pub build_turned : (c : InputCause) → (build_answer bytes d ≡ Err (Input c)) ↔ FirstBad bytes c
  build_turned c = (λ e. (lists.turned_down_lem bytes c).0 ((calls.build_turned bytes d c).0 e), λ B. (calls.build_turned bytes d c).1 ((lists.turned_down_lem bytes c).1 B))

  -- then 24 exactly where the table does not fit,
  pub build_short : (build_answer bytes d ≡ Err (State DestinationShort)) ↔ ((ws : List Word) × TakenAs bytes ws × (length d < length (cells_of (trie_table ws))))
  build_short = calls.build_short bytes d

  -- and a refusal leaves every cell as it was.
  pub build_refused : (r : Refusal) → build_answer bytes d ≡ Err r → build_cells bytes d ≡ d
  build_refused = calls.build_refused bytes d
