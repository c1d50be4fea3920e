-- What the call answers, and what it leaves in the destination that it is lent: 30, 31, 32 as the list earns them, "then 24".
use Rattle.std.specs.Prelude.{ℕ, List, Result, Err}
use Rattle.refusal.specs.declared.Refusal.TheVariants.{Input}
use Rattle.refusal.specs.declared.Refusal.{Refusal}
use Rattle.destination.specs.Stored.{stored_answer, stored_cells}
use Rattle.table_format.specs.Loaded.{cells_of}
use Rattle.lexicon.specs.Lexicon.{Lexicon, words, turned_down, lexicon}
use Rattle.trie_format.specs.Trie.{trie_table}

abbrev pub answer_for : Lexicon → List ℕ → Result ℕ Refusal
answer_for (words ws) destination = stored_answer (cells_of (trie_table ws)) destination
answer_for (turned_down cause) destination = Err (Input cause)

abbrev pub cells_for : Lexicon → List ℕ → List ℕ
cells_for (words ws) destination = stored_cells (cells_of (trie_table ws)) destination
cells_for (turned_down cause) destination = destination

unfoldable pub build_answer : List ℕ → List ℕ → Result ℕ Refusal
build_answer bytes destination = answer_for (lexicon bytes) destination

unfoldable pub build_cells : List ℕ → List ℕ → List ℕ
build_cells bytes destination = cells_for (lexicon bytes) destination
