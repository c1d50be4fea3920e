-- The same as in Gathered, as facts: which lines make a list, and which line is the first that cannot be used.
use Rattle.std.specs.Prelude.{◌≤◌, ◌<◌, ◌≡◌, length}
use mathlib.Core.List.{List, ◌∷◌, ◌++◌, map, Memᴰ}
use Rattle.lexicon.specs.Words.{Word}
use Rattle.lexicon.specs.Beginnings.{beginnings}
use Rattle.lexicon.specs.Lexicon.{most_states}
use Rattle.wordlist_lines.specs.Lines.{Line}
use Rattle.wordlist_spelling.specs.Spelled.{most_letters, spelled}
use Rattle.wordlist_spelling.specs.Facts.{Spells}
use Rattle.wordlist_sorted.specs.Sorted.{inserted, sorted}
use Rattle.wordlist.specs.Gathered.{Fate, taken, bad_word, too_many}

-- a line is a word: its characters are the word's letters, small or capital, and these are at most 64
abbrev pub IsWord : Line → Word → Type 0
IsWord l w = Spells w l.text × (length w ≤ most_letters)

-- the word that a line is, if it is one
abbrev pub word_of : Line → Word
word_of l = (spelled l.text).letters

-- lines that make a list: each is a word, the list is these words sorted, and its letter tree has at most 256 states
pub record TakenLines (ls : List Line) (ws : List Word) : Type 0 where
  pub words : (l : Line) → Memᴰ l ls → IsWord l (word_of l)
  pub sorted-is : ws ≡ sorted (map word_of ls)
  pub few : length (beginnings ws) ≤ most_states

-- a line that cannot be used after a list: it is no word,
abbrev pub NoWord : Line → List Word → Type 0
NoWord l ws = (w : Word) → IsWord l w → ⊥

-- or it is one with which the letter tree has more than 256 states
abbrev pub Crowds : Line → List Word → Type 0
Crowds l ws = IsWord l (word_of l) × (most_states < length (beginnings (inserted (word_of l) ws)))

-- the first line that cannot be used, and the list that the lines before it make
pub record FirstFault (Fault : Line → List Word → Type 0) (ls : List Line) (l : Line) (ws : List Word) : Type 0 where
  pub before : List Line
  pub after : List Line
  pub cut : ls ≡ before ++ (l ∷ after)
  pub made : TakenLines before ws
  pub fault : Fault l ws

-- what lines come to
abbrev pub ComesTo : List Line → Fate → Type 0
ComesTo ls (taken ws) = TakenLines ls ws
ComesTo ls (bad_word l ws) = FirstFault NoWord ls l ws
ComesTo ls (too_many l ws) = FirstFault Crowds ls l ws
