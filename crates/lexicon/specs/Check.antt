-- What the code of the check says, in the terms of Lexicon.
use Rattle.std.specs.Prelude.{ℕ, suc, ◌+◌, ◌-◌, cond, [], ◌∷◌, eqb, leb, length, Result, Ok, Err}
use Rattle.refusal.specs.declared.InputCause.{InputCause}
use Rattle.refusal.specs.declared.InputCause.TheVariants.{ListedWord, WordOrder, StateLimit}
use Rattle.lexicon.specs.Words.{Word, good_word, rises}
use Rattle.lexicon.specs.Beginnings.{beginnings}
use Rattle.lexicon.specs.Lexicon.{most_states, Lexicon, words, turned_down}

-- how many letters two words have in common at the front
abbrev pub common : Word → Word → ℕ
common [] w = 0
common (x ∷ p) [] = 0
common (x ∷ p) (y ∷ w) = cond (eqb x y) (suc (common p w)) 0

-- the states of a tree of so many, with a word added after p
abbrev pub grown : Word → Word → ℕ → ℕ
grown p w states = states + (length w - common p w)

-- a word after p, in a tree of so many states
abbrev pub word_listing : Word → Word → ℕ → Result ℕ InputCause
word_listing p w states =
    cond (good_word w) (cond (rises p w) (cond (leb (grown p w states) most_states) (Ok (grown p w states)) (Err StateLimit)) (Err WordOrder))
    (Err ListedWord)

-- what a whole list tells
abbrev pub listing : Lexicon → Result ℕ InputCause
listing (words ws) = Ok (length (beginnings ws))
listing (turned_down cause) = Err cause
