-- What a line's characters spell: a word of letters, or letters up to a character that is no letter or is the 65th of them.
use Rattle.std.specs.Prelude.{ℕ, zero, suc, ◌+◌, ◌≡◌, cond, Option, Some, None, Result, Ok, Err, List, [], ◌∷◌, ◌++◌, eqb, leb, length, drop}
use Rattle.std.proofs.lemmas.List.Edits.{sets}
use Rattle.utf8.specs.declared.Character.{Character}
use Rattle.utf8.specs.Utf8.{character_in}
use Rattle.alphabet.specs.Letters.{letter_of}
use Rattle.wordlist_spelling.specs.declared.FaultKind.{FaultKind}
use Rattle.wordlist_spelling.specs.declared.FaultKind.TheVariants.{NoLetter, TooLong}
use Rattle.wordlist_spelling.specs.declared.Fault.{Fault}

-- the most letters of a word
abbrev pub most_letters : ℕ
most_letters = 64

-- how a line's letters end: with the line, or with a fault
abbrev pub Ending : Type 0
Ending = Option FaultKind

-- the letters before the end or the fault, which of these it is, where it stands, and the bytes of the character there
pub record Spelled : Type 0 where
  pub letters : List ℕ
  pub ending : Ending
  pub at : ℕ
  pub size : ℕ

-- letters that end so
abbrev pub ended : List ℕ → Ending → ℕ → ℕ → Spelled
ended w ending at size = record { letters = w; ending = ending; at = at; size = size }

-- a character after letters; k goes on after it
abbrev pub by_character : Option Character → List ℕ → ℕ → (ℕ → ℕ → Spelled) → Spelled
by_character None w at k = ended w (Some NoLetter) at 1
by_character (Some x) w at k =
    cond (eqb (letter_of x.code) 0) (ended w (Some NoLetter) at x.size)
    (cond (leb most_letters (length w)) (ended w (Some TooLong) at x.size) (k (letter_of x.code) x.size))

-- characters after letters, at a place; each takes a byte or more, so that as many as there are bytes are all
unfoldable pub spelled_from : ℕ → List ℕ → ℕ → List ℕ → Spelled
spelled_from zero w at bytes = ended w None at 0
spelled_from (suc f) w at [] = ended w None at 0
spelled_from (suc f) w at (b ∷ bytes) =
    by_character (character_in (b ∷ bytes)) w at (λ x size. spelled_from f (w ++ (x ∷ [])) (at + size) (drop size (b ∷ bytes)))

-- what a line spells
unfoldable pub spelled : List ℕ → Spelled
spelled line = spelled_from (length line) [] 0 line

-- what the code tells of so many letters that end so: how many they are, or the fault
abbrev pub told_of : Ending → ℕ → ℕ → ℕ → Result ℕ Fault
told_of None letters at size = Ok letters
told_of (Some kind) letters at size = Err (record { letters = letters; kind = kind; at = at; size = size })

-- how many letters it tells
abbrev pub letters_told : Result ℕ Fault → ℕ
letters_told (Ok letters) = letters
letters_told (Err fault) = fault.letters

-- what the code tells of a line, and leaves in the word: the letters are stored at its front
pub record SpelledIs (line : List ℕ) (told : Result ℕ Fault) (before after : List ℕ) : Type 0 where
  pub told-is : told ≡ told_of (spelled line).ending (length (spelled line).letters) (spelled line).at (spelled line).size
  pub word-is : after ≡ sets before 0 (spelled line).letters
