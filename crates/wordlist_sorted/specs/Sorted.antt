-- Words in any order, sorted and without repeats. `sorted_rises`, `sorted-members` say what the list is, and `sorted-only` that no other is so.
use Rattle.std.specs.Prelude.{◌≡◌, true, cond}
use mathlib.Core.List.{List, [], ◌∷◌, Memᴰ}
use Rattle.lexicon.specs.Words.{Word, good_word, rises}

-- a word in its place; one that is there already is not added
unfoldable pub inserted : Word → List Word → List Word
inserted w [] = w ∷ []
inserted w (v ∷ ws) = cond (rises v w) (v ∷ inserted w ws) (cond (rises w v) (w ∷ v ∷ ws) (v ∷ ws))

-- further words, one after another, in a list
abbrev pub sorted_onto : List Word → List Word → List Word
sorted_onto ws [] = ws
sorted_onto ws (v ∷ vs) = sorted_onto (inserted v ws) vs

unfoldable pub sorted : List Word → List Word
sorted vs = sorted_onto [] vs

-- every word is good: 1 to 64 letters from 1 to 62
abbrev pub GoodWords : List Word → Type 0
GoodWords ws = (w : Word) → Memᴰ w ws → good_word w ≡ true
