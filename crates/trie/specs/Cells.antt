-- The parts of the letter tree's table, by what the code's rows hold.
use Rattle.std.specs.Prelude.{ℕ, ◌+◌, ◌-◌, ◌/◌, ◌<◌, Bool, cond, List, [], ◌∷◌, ◌++◌, map, replicate}
use Rattle.table_format.specs.Table.{Arc}
use Rattle.table_format.specs.Loaded.{arc_width, class_cells, initials_at}
use Rattle.trie_format.specs.Trie.{cut_arc}
use Rattle.trie_states.specs.declared.tree.State.{State}
use Rattle.trie_states.specs.declared.children.Links.{Links}
use Rattle.trie_states.specs.Tree.{letter_of, ends_at, first_of, next_of, passing, Chain, child_arc}

-- the states at which words end, of n from i on
abbrev pub marked : List State → ℕ → ℕ → List ℕ
marked tree = passing (ends_at tree)

-- the arc back to the root, of a state at which a word ends
abbrev pub cut_arcs : ℕ → Bool → List Arc
cut_arcs i is_end = cond is_end (cut_arc i ∷ []) []

-- the arcs of a state, by its children and whether a word ends at it
abbrev pub state_arcs : List State → (ℕ → List ℕ) → ℕ → List Arc
state_arcs tree below i = map (child_arc (letter_of tree) i) (below i) ++ cut_arcs i (ends_at tree i)

-- the children of states, as lists
abbrev pub Chains : List Links → ℕ → (ℕ → List ℕ) → Type 0
Chains links states below = (i : ℕ) → i < states → Chain (next_of links) (first_of links i) (below i)

-- where the terminal states begin, after the counts, the classes and one initial state
abbrev pub terminals_begin : ℕ
terminals_begin = initials_at + 1

-- what stands before them: the counts, and 0 in every cell of the classes and for the initial state, the root
abbrev pub front : ℕ → ℕ → ℕ → List ℕ
front states terminals arcs = states ∷ 1 ∷ terminals ∷ arcs ∷ replicate (class_cells + 1) 0

-- the same, where the arcs begin and end at such places
abbrev pub counts_before : ℕ → ℕ → ℕ → List ℕ
counts_before states arcs_from end = front states (arcs_from - terminals_begin) ((end - arcs_from) / arc_width)
