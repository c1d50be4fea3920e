-- The same as in Spelled, as facts: which lines spell a word, and which have a fault where.
use Rattle.std.specs.Prelude.{ℕ, ◌≤◌, ◌<◌, ◌≡◌, true, Some, None, List, [], ◌∷◌, ◌++◌, length}
use Rattle.utf8.specs.Utf8.{is_scalar, encoded}
use Rattle.alphabet.specs.Letters.{letter_of}
use Rattle.wordlist_spelling.specs.declared.FaultKind.TheVariants.{NoLetter, TooLong}
use Rattle.wordlist_spelling.specs.Spelled.{most_letters, Ending, Spelled}

-- bytes that spell letters: the characters of these, small or capital, one after another
pub data Spells : List ℕ → List ℕ → Type 0 where
  none : Spells [] []
  one : (c : ℕ) {w bytes : List ℕ} → is_scalar c ≡ true → 0 < letter_of c → Spells w bytes → Spells (letter_of c ∷ w) (encoded c ++ bytes)

-- no character stands at the front of bytes
abbrev pub NoCharacter : List ℕ → Type 0
NoCharacter bytes = (c : ℕ) (rest : List ℕ) → is_scalar c ≡ true → bytes ≡ encoded c ++ rest → ⊥

-- a character that is no letter, in so many bytes; bytes that are no character count one by one
pub data Foreign : List ℕ → ℕ → Type 0 where
  other : (c : ℕ) (rest : List ℕ) → is_scalar c ≡ true → letter_of c ≡ 0 → Foreign (encoded c ++ rest) (length (encoded c))
  broken : (bytes : List ℕ) → 0 < length bytes → NoCharacter bytes → Foreign bytes 1

-- a letter, in so many bytes
pub data Letter : List ℕ → ℕ → Type 0 where
  letter : (c : ℕ) (rest : List ℕ) → is_scalar c ≡ true → 0 < letter_of c → Letter (encoded c ++ rest) (length (encoded c))

-- what stands behind the letters, by how it ended: nothing; a character that is no letter; or a letter after 64 others
abbrev pub Ends : Ending → List ℕ → List ℕ → ℕ → Type 0
Ends None w rest size = (rest ≡ []) × (size ≡ 0)
Ends (Some NoLetter) w rest size = Foreign rest size
Ends (Some TooLong) w rest size = (length w ≡ most_letters) × Letter rest size

-- a line's letters, and what stands behind them
pub record SpelledAs (line : List ℕ) (s : Spelled) : Type 0 where
  pub before : List ℕ
  pub rest : List ℕ
  pub cut : line ≡ before ++ rest
  pub spells : Spells s.letters before
  pub few : length s.letters ≤ most_letters
  pub place : s.at ≡ length before
  pub ends : Ends s.ending s.letters rest s.size
