-- Document 01, "Lines of the text": a text is cut at its line feeds (character 10); a line is two capital digits for each byte.
use Rattle.std.specs.Prelude.{ℕ, ◌+◌, ◌*◌, ◌%◌, Bool, true, false, not, cond, ◌||◌, List, [], ◌∷◌, ◌++◌, eqb, length, Option, Some, None}
use Rattle.hexadecimal.specs.Hex.{value_of, decoded, encoded}
use Rattle.table_format.specs.Rules.{is_empty, any}

-- a line's characters, and whether its line feed is there
pub record Line : Type 0 where
  pub chars : List ℕ
  pub fed : Bool

-- how many characters a line has, with its line feed if that is there
abbrev pub size_of : Line → ℕ
size_of l = length l.chars + cond l.fed 1 0

abbrev pub with_char : ℕ → List Line → List Line
with_char c [] = record { chars = c ∷ []; fed = false } ∷ []
with_char c (l ∷ ls) = record { chars = c ∷ l.chars; fed = l.fed } ∷ ls

unfoldable pub lines_of : List ℕ → List Line
lines_of [] = []
lines_of (c ∷ cs) = cond (eqb c 10) (record { chars = []; fed = true } ∷ lines_of cs) (with_char c (lines_of cs))

abbrev pub is_value : Option ℕ → Bool
is_value (Some v) = true
is_value None = false

-- 1: the line is empty, has an odd count of digits, a character other than 0-9, A-F, or lacks its line feed
unfoldable pub malformed : Line → Bool
malformed l =
    is_empty l.chars
    || (eqb (length l.chars % 2) 1 || (any (λ c. not (is_value (value_of c))) l.chars || not l.fed))

-- the bytes that a line's characters say, two to a byte
abbrev pub byte_in : Option ℕ → ℕ
byte_in (Some v) = v
byte_in None = 0

unfoldable pub bytes_of : List ℕ → List ℕ
bytes_of [] = []
bytes_of (h ∷ []) = []
bytes_of (h ∷ l ∷ cs) = byte_in (decoded h l) ∷ bytes_of cs

-- the characters that say bytes, and the line with its line feed
unfoldable pub chars_of : List ℕ → List ℕ
chars_of [] = []
chars_of (b ∷ bs) = encoded b ++ chars_of bs

abbrev pub line_text : List ℕ → List ℕ
line_text bs = chars_of bs ++ (10 ∷ [])

-- "two digits a byte", "line feed after each": the characters of a line of so many bytes
abbrev pub characters_of : ℕ → ℕ
characters_of bytes = 2 * bytes + 1
