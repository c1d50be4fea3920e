-- Document 02, word lists: "One state per common beginning, numbered in dictionary order". The beginnings of listed words, the empty one first,
-- each once. `beginnings-are` says which they are, `beginnings-rise` their order, and `beginnings-only` that no other list is so.
use Rattle.std.specs.Prelude.{cond, ◌⊎◌, ◌≡◌, eqb}
use mathlib.Core.List.{List, [], ◌∷◌, ◌++◌, Memᴰ}
use Rattle.graph.specs.Lists.{Before}
use Rattle.lexicon.specs.Words.{Word}

-- the beginnings of b ++ w that are longer than b
abbrev pub longer : Word → Word → List Word
longer b [] = []
longer b (x ∷ w) = (b ++ (x ∷ [])) ∷ longer (b ++ (x ∷ [])) w

-- those among them that are no beginnings of b ++ p
abbrev pub fresh : Word → Word → Word → List Word
fresh b [] w = longer b w
fresh b (x ∷ p) [] = []
fresh b (x ∷ p) (y ∷ w) = cond (eqb x y) (fresh (b ++ (y ∷ [])) p w) (longer b (y ∷ w))

-- for each word those that the word before it, at first p, does not have
abbrev pub fresh_after : Word → List Word → List Word
fresh_after p [] = []
fresh_after p (w ∷ ws) = fresh [] p w ++ fresh_after w ws

-- the root's, then these
unfoldable pub beginnings : List Word → List Word
beginnings ws = [] ∷ fresh_after [] ws

-- What they are, said without computing them.

-- a beginning of a listed word; the root's is there in any case
abbrev pub Begins : List Word → Word → Type 0
Begins ws c = (c ≡ []) ⊎ ((u : Word) × Memᴰ (c ++ u) ws)

-- each before all later ones in dictionary order
abbrev pub RisingWords : List Word → Type 0
RisingWords [] = Unit {0}
RisingWords (b ∷ bs) = ((c : Word) → Memᴰ c bs → Before b c) × RisingWords bs
