-- What the letter tree's table has, as facts on its arcs, where bs are the beginnings of its states. Its arcs are these, in this order, and no others
-- (`arcs-are`, `arcs_rise_lem`, `arcs-only`).
use Rattle.std.specs.Prelude.{ℕ, suc, ◌+◌, ◌*◌, ◌≤◌, ◌<◌, ◌≡◌, ◌⊎◌, length, get_or}
use mathlib.Core.List.{List, [], ◌∷◌, ◌++◌, Memᴰ}
use Rattle.table_format.specs.Table.{Arc}
use Rattle.lexicon.specs.Words.{Word}
use Rattle.trie_format.specs.Trie.{cut_letter}

-- "other arcs read and write one letter": to the state whose beginning has that letter more
pub record ByLetter (bs : List Word) (a : Arc) : Type 0 where
  pub source_in : a.source < length bs
  pub target_in : a.target < length bs
  pub low : 1 ≤ a.lower
  pub high : a.lower ≤ 62
  pub same : a.upper ≡ a.lower
  pub no_penalty : a.penalty ≡ 0
  pub step : get_or bs a.target [] ≡ get_or bs a.source [] ++ (a.lower ∷ [])

-- "Every word end has a last arc that reads nothing, writes letter 63 and goes back to the root"
pub record FromEnd (ws bs : List Word) (a : Arc) : Type 0 where
  pub source_in : a.source < length bs
  pub word_end : Memᴰ (get_or bs a.source []) ws
  pub reads_none : a.upper ≡ 0
  pub writes-cut : a.lower ≡ cut_letter
  pub to-root : a.target ≡ 0
  pub no_penalty : a.penalty ≡ 0

abbrev pub TreeArc : List Word → List Word → Arc → Type 0
TreeArc ws bs a = ByLetter bs a ⊎ FromEnd ws bs a

-- "stand by rising letter": arcs rise by their source, and then by what they write, of which 63 is the last
abbrev pub rank : Arc → ℕ
rank a = a.source * 64 + a.lower

module _ {A : Type 0} (rank : A → ℕ) where
  -- the ranks rise, from r on and below m
  abbrev pub Between : ℕ → ℕ → List A → Type 0
  Between r m [] = r ≤ m
  Between r m (a ∷ l) = (r ≤ rank a) × Between (suc (rank a)) m l

  -- they rise
  abbrev pub Ranked : List A → Type 0
  Ranked l = (r : ℕ) × (m : ℕ) × Between r m l
