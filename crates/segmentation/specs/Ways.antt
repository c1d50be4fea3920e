-- Document 02, word lists: "all the ways to cut it into listed words", in the order of the readings: at the first difference the longer word first.
use Rattle.std.specs.Prelude.{◌<◌, ◌≡◌, ◌⊎◌, cond, length}
use mathlib.Core.List.{List, [], ◌∷◌, ◌++◌, map, Memᴰ}
use Rattle.lexicon.specs.Words.{Word, listed}
use Rattle.trie_format.specs.Trie.{cut_letter}

-- the ways to cut b ++ v whose first word begins with b: the next letter goes on with that word, or it begins the next one
unfoldable pub cuts_from : List Word → Word → Word → List (List Word)
cuts_from ws b [] = cond (listed ws b) ((b ∷ []) ∷ []) []
cuts_from ws b (x ∷ v) = cuts_from ws (b ++ (x ∷ [])) v ++ cond (listed ws b) (map (λ z. b ∷ z) (cuts_from ws (x ∷ []) v)) []

-- the ways to cut a word; the empty one has one, into no words
abbrev pub ways_to_cut : List Word → Word → List (List Word)
ways_to_cut ws [] = [] ∷ []
ways_to_cut ws (x ∷ v) = cuts_from ws (x ∷ []) v

-- the words with letter 63 between
abbrev pub joined : List Word → Word
joined [] = []
joined (w ∷ []) = w
joined (w ∷ v ∷ ws) = w ++ (cut_letter ∷ joined (v ∷ ws))

-- What the ways are, said without recursion on the word (`ways-are`, `ways-in_order`); no other list is so (`ways-only`).

-- words one after another
abbrev pub together : List Word → Word
together [] = []
together (w ∷ z) = w ++ together z

-- listed words that make w
pub record Way (ws : List Word) (w : Word) (z : List Word) : Type 0 where
  pub from_list : (u : Word) → Memᴰ u z → Memᴰ u ws
  pub whole : together z ≡ w

-- at the first difference the longer word comes first
abbrev pub Earlier : List Word → List Word → Type 0
Earlier [] y = ⊥
Earlier (b ∷ z) [] = ⊥
Earlier (b ∷ z) (c ∷ y) = (length c < length b) ⊎ ((b ≡ c) × Earlier z y)

-- each way before all that come later
abbrev pub Falling : List (List Word) → Type 0
Falling [] = Unit {0}
Falling (z ∷ Z) = ((y : List Word) → Memᴰ y Z → Earlier z y) × Falling Z
