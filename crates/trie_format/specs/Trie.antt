-- Document 02, word lists: the letter tree's table (a trie). "One state per common beginning, numbered in dictionary order, the root initial, word
-- ends terminal. Every word end has a last arc that reads nothing, writes letter 63 and goes back to the root; other arcs read and write
-- one letter and stand by rising letter."
use Rattle.std.specs.Prelude.{ℕ, zero, suc, cond, List, [], ◌∷◌, ◌++◌, length}
use Rattle.std.proofs.Math.Option.{Option, none, some}
use Rattle.table_format.specs.Table.{Arc, Table}
use Rattle.table_format.specs.Classes.{no_classes}
use Rattle.lexicon.specs.Words.{Word, same, listed}
use Rattle.lexicon.specs.Beginnings.{beginnings}

-- the letter that marks a cut
abbrev pub cut_letter : ℕ
cut_letter = 63

-- the place of a beginning, where the first one's is i
abbrev pub place_from : ℕ → Word → List Word → Option ℕ
place_from i b [] = none
place_from i b (c ∷ cs) = cond (same b c) (some i) (place_from (suc i) b cs)

-- f at each beginning and its place
abbrev pub by_state : {A : Type 0} → (ℕ → Word → List A) → ℕ → List Word → List A
by_state f i [] = []
by_state f i (b ∷ bs) = f i b ++ by_state f (suc i) bs

-- an arc that reads and writes x, if there is a state to lead to
abbrev pub letter_arc : ℕ → ℕ → Option ℕ → List Arc
letter_arc i x none = []
letter_arc i x (some j) = record { source = i; upper = x; lower = x; target = j; penalty = 0 } ∷ []

-- the arcs of state i, of beginning b, by n letters from x on
unfoldable pub letter_arcs : List Word → ℕ → Word → ℕ → ℕ → List Arc
letter_arcs bs i b x zero = []
letter_arcs bs i b x (suc n) = letter_arc i x (place_from 0 (b ++ (x ∷ [])) bs) ++ letter_arcs bs i b (suc x) n

-- the arc back to the root
abbrev pub cut_arc : ℕ → Arc
cut_arc i = record { source = i; upper = 0; lower = cut_letter; target = 0; penalty = 0 }

-- the arcs of state i, of beginning b
abbrev pub arcs_of : List Word → List Word → ℕ → Word → List Arc
arcs_of ws bs i b = letter_arcs bs i b 1 62 ++ cond (listed ws b) (cut_arc i ∷ []) []

-- the table of some words, where the states' beginnings are bs
abbrev pub table_on : List Word → List Word → Table
table_on ws bs =
    record {
      states = length bs;
      classes = no_classes;
      initials = 0 ∷ [];
      terminals = by_state (λ i b. cond (listed ws b) (i ∷ []) []) 0 bs;
      arcs = by_state (arcs_of ws bs) 0 bs;
    }

-- the table of a list of words
abbrev pub trie_table : List Word → Table
trie_table ws = table_on ws (beginnings ws)
