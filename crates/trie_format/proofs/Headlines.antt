-- The theorems about the letter tree's table, stated together. What each one means is in specs/; how it is shown is in the files that it names.
use Prim.Native.Nat.{ℕ, ◌*◌, ◌≤◌, ◌<◌}
use mathlib.Core.Path.{◌≡◌, refl}
use mathlib.Core.Logic.{◌↔◌}
use mathlib.Core.Bool.{true}
use mathlib.Core.Option.{some}
use mathlib.Core.List.{List, [], ◌∷◌, ◌++◌, Memᴰ}
use lib.ListN.{length, get_or}
use Rattle.table_format.specs.Table.{Arc}
use Rattle.table_format.specs.Classes.{no_classes}
use Rattle.table_format.specs.Rules.{keeps_rules}
use Rattle.table_format.specs.Loaded.{cells_of, loaded}
use Rattle.table_format.proofs.Loaded.{loaded-cells}
use Rattle.table_format.proofs.Ruled.{ruled}
use Rattle.lexicon.specs.Words.{Word, list_holds}
use Rattle.lexicon.specs.Beginnings.{beginnings}
use Rattle.lexicon.specs.Lexicon.{most_states}
use Rattle.lexicon.specs.FirstBad.{Kept}
use Rattle.lexicon.proofs.Beginnings.{beginnings-rise, rising-distinct}
use Rattle.trie_format.specs.Trie.{letter_arcs, trie_table}
use Rattle.trie_format.specs.Facts.{TreeArc, rank, Ranked}
use Rattle.trie_format.proofs.Names.{names}
use Rattle.trie_format.proofs.Shapes.{arcs-between}
use Rattle.trie_format.proofs.Rules as rules
use Rattle.trie_format.proofs.Arcs as arcs

module _ (ws : List Word) (K : Kept ws) where
  -- THE TABLE of a list that earns no refusal keeps document 01's rules: it has at most 256 states, 255 terminal states and 510 arcs.
  pub trie_rules : keeps_rules (trie_table ws) ≡ true
  trie_rules = rules.rules ws (beginnings ws) (names ws K.holds) (rising-distinct (beginnings ws) (beginnings-rise ws K.holds)) K.few

  -- It has at most 2,938 cells.
  pub trie_cells : length (cells_of (trie_table ws)) ≤ 2938
  trie_cells = rules.few-cells ws (beginnings ws) (names ws K.holds) (rising-distinct (beginnings ws) (beginnings-rise ws K.holds)) K.few

  -- Cells that begin with the table's are loaded as it.
  pub trie_loaded : (rest : List ℕ) → loaded (cells_of (trie_table ws) ++ rest) ≡ some (trie_table ws)
  trie_loaded rest = loaded-cells (trie_table ws) rest trie_rules

module _ (ws : List Word) (holds : list_holds ws ≡ true) where
  -- "more than 256 states": exactly where the table would break a rule.
  pub limit : (length (beginnings ws) ≤ most_states) ↔ (keeps_rules (trie_table ws) ≡ true)
  limit = (
    rules.rules ws (beginnings ws) (names ws holds) (rising-distinct (beginnings ws) (beginnings-rise ws holds)),
    λ k. (ruled (trie_table ws) k).few-states,
  )

  -- "word ends terminal": the states of listed words, by rising number as the rules ask.
  pub terminals-are : (s : ℕ) → Memᴰ s (trie_table ws).terminals ↔ ((s < length (beginnings ws)) × Memᴰ (get_or (beginnings ws) s []) ws)
  terminals-are = arcs.terminals-are ws holds

  -- "Every word end has a last arc that reads nothing, writes letter 63 and goes back to the root; other arcs read and write one letter"
  pub arcs-are : (a : Arc) → Memᴰ a (trie_table ws).arcs ↔ TreeArc ws (beginnings ws) a
  arcs-are = arcs.arcs-are ws holds

  -- "and stand by rising letter"; no other list is so.
  pub arcs_rise_lem : Ranked rank (trie_table ws).arcs
  arcs_rise_lem = (0, length (beginnings ws) * 64, arcs-between ws (beginnings ws))

  pub arcs-only : (l : List Arc) → Ranked rank l → ((a : Arc) → Memᴰ a l ↔ TreeArc ws (beginnings ws) a) → l ≡ (trie_table ws).arcs
  arcs-only = arcs.arcs-only ws holds

-- An empty list gives the table of one state.
pub empty-list : trie_table [] ≡ record { states = 1; classes = no_classes; initials = 0 ∷ []; terminals = []; arcs = [] }
unfolding beginnings letter_arcs
empty-list = refl
