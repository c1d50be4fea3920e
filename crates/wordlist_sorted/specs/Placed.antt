-- What the code of the list says, in the terms of Sorted.
use Rattle.std.specs.Prelude.{ℕ, ◌≡◌, Option, Some, None, List, ◌∷◌, ◌++◌, length, drop}
use Rattle.lexicon.specs.Words.{Word}
use Rattle.lexicon.specs.Lexicon.{spelled}
use Rattle.wordlist_sorted.specs.Sorted.{inserted}

-- bytes of a list: room for 256 words of 64 letters
abbrev pub list_bytes : ℕ
list_bytes = 16640

-- the bytes of words at the front, the others as they were before
abbrev pub Holds : List Word → List ℕ → List ℕ → Type 0
Holds ws before after = after ≡ spelled ws ++ drop (length (spelled ws)) before

-- words cut in two, the first ones in so many bytes
pub record Cut (ws : List Word) (at : ℕ) : Type 0 where
  pub first : List Word
  pub others : List Word
  pub is : ws ≡ first ++ others
  pub size : at ≡ length (spelled first)

-- where a word's place is: it goes between two parts, or it is listed
abbrev pub PlaceIs : Word → List Word → Option ℕ → Type 0
PlaceIs w ws (Some at) = (C : Cut ws at) × (inserted w ws ≡ C.first ++ (w ∷ C.others))
PlaceIs w ws None = inserted w ws ≡ ws
