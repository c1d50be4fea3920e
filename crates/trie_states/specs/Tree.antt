-- What the code's rows hold: the tree, and the children of its states.
use Rattle.std.specs.Prelude.{ℕ, zero, suc, ◌-◌, ◌≤◌, ◌<◌, ◌≡◌, Bool, false, cond, List, [], ◌∷◌, ◌++◌, length, get_or, eqb, Option, Some, None, IfSome}
use Rattle.trie_states.specs.declared.tree.State.{State}
use Rattle.trie_states.specs.declared.children.Links.{Links}
use Rattle.table_format.specs.Table.{Arc}
use Rattle.lexicon.specs.Words.{Word, listed}
use Rattle.lexicon.specs.Lexicon.{most_states}

-- The tree.

-- each state but the root is its parent's beginning and a letter
pub record Rows (parent letter : ℕ → ℕ) (bs : List Word) : Type 0 where
  pub root : get_or bs 0 [] ≡ []
  pub parent_in : (j : ℕ) → 0 < j → j < length bs → parent j < length bs
  pub row : (j : ℕ) → 0 < j → j < length bs → get_or bs j [] ≡ get_or bs (parent j) [] ++ (letter j ∷ [])
  pub low : (j : ℕ) → 0 < j → j < length bs → 1 ≤ letter j
  pub high : (j : ℕ) → 0 < j → j < length bs → letter j ≤ 62

-- a state, with what stands in a row that no state has
abbrev pub state_at : List State → ℕ → State
state_at tree j = get_or tree j (record { parent = 0; letter = 0; is_end = false })

abbrev pub parent_of : List State → ℕ → ℕ
parent_of tree j = (state_at tree j).parent

abbrev pub letter_of : List State → ℕ → ℕ
letter_of tree j = (state_at tree j).letter

abbrev pub ends_at : List State → ℕ → Bool
ends_at tree j = (state_at tree j).is_end

-- every state stands below one of n
abbrev pub Below : ℕ → List State → Type 0
Below n tree = (j : ℕ) → parent_of tree j < n

-- so many parents up from a state
abbrev pub ancestor : List State → ℕ → ℕ → ℕ
ancestor tree s zero = s
ancestor tree s (suc n) = ancestor tree (parent_of tree s) n

-- the states of letters from s on, each below the one before it and the first below p
abbrev pub states_below : ℕ → ℕ → List ℕ → List State
states_below p s [] = []
states_below p s (x ∷ w) = record { parent = p; letter = x; is_end = false } ∷ states_below s (suc s) w

-- the tree of some words, of beginnings bs, in a row of states
pub record Tree (ws bs : List Word) (tree : List State) : Type 0 where
  pub states_all : length tree ≡ most_states
  pub parents_low : Below most_states tree
  pub rows : Rows (parent_of tree) (letter_of tree) bs
  pub marks : (i : ℕ) → i < length bs → ends_at tree i ≡ listed ws (get_or bs i [])
  pub unmarked : (i : ℕ) → length bs ≤ i → ends_at tree i ≡ false

-- The children of its states.

-- f at n states from i on
abbrev pub over_states : {A : Type 0} → (ℕ → List A) → ℕ → ℕ → List A
over_states f i zero = []
over_states f i (suc n) = f i ++ over_states f (suc i) n

-- those of n states from i on that pass a test
abbrev pub passing : (ℕ → Bool) → ℕ → ℕ → List ℕ
passing test = over_states (λ i. cond (test i) (i ∷ []) [])

-- the children of a state among n states from j on
abbrev pub children : (ℕ → ℕ) → ℕ → ℕ → ℕ → List ℕ
children parent i = passing (λ k. eqb (parent k) i)

-- the arc to a child, by its letter
abbrev pub child_arc : (ℕ → ℕ) → ℕ → ℕ → Arc
child_arc letter i j = record { source = i; upper = letter j; lower = letter j; target = j; penalty = 0 }

-- a state's first child, and the next one after a state, if there are
abbrev pub links_at : List Links → ℕ → Links
links_at links j = get_or links j (record { first = None; next = None })

abbrev pub first_of : List Links → ℕ → Option ℕ
first_of links j = (links_at links j).first

abbrev pub next_of : List Links → ℕ → Option ℕ
next_of links j = (links_at links j).next

-- a list of states, from the first one on: each leads to a later one, the last one to none
abbrev pub Chain : (ℕ → Option ℕ) → Option ℕ → List ℕ → Type 0
Chain after k [] = k ≡ None
Chain after k (j ∷ l) = (k ≡ Some j) × (j < most_states) × IfSome (after j) (λ n. j < n) × Chain after (after j) l

-- the children of each state, from its first one on
pub record Linked (tree : List State) (states : ℕ) (links : List Links) : Type 0 where
  pub links-all : length links ≡ most_states
  pub chains : (i : ℕ) → i < most_states → Chain (next_of links) (first_of links i) (children (parent_of tree) i 1 (states - 1))
