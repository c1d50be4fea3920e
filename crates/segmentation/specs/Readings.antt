-- The readings in synthesis of a word over the letter tree's table of a list of words, under a ceiling; no arc of the tree has a penalty.
use Rattle.std.specs.Prelude.{ℕ, List}
use Rattle.machine.specs.Query.{synthesis_of}
use Rattle.machine.specs.Machine.{Machine}
use Rattle.machine.specs.Tour.{tour, readings}
use Rattle.machine.specs.Transducer.{machine}
use Rattle.lexicon.specs.Words.{Word}
use Rattle.trie_format.specs.Trie.{trie_table}

-- the machine of the tree's table
abbrev pub tree_machine : List Word → Word → ℕ → Machine
tree_machine ws w ceiling = machine (trie_table ws) (synthesis_of w ceiling)

-- the readings of its accepting paths, in the order of its tour
abbrev pub tree_readings : List Word → Word → ℕ → List (List ℕ)
tree_readings ws w ceiling = readings (tree_machine ws w ceiling) (tour (tree_machine ws w ceiling))
