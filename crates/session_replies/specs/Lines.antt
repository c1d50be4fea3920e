-- Document 01, "Lines of the text": the bytes of each line that a session prints.
use Rattle.std.specs.Prelude.{ℕ, ◌+◌, ◌≡◌, List, [], ◌∷◌, ◌++◌, length, drop}
use Rattle.refusal.specs.declared.Refusal.{Refusal}
use Rattle.refusal.specs.Refusal.{number_of}
use Rattle.table_format.specs.Line.{line_text, characters_of}
use Rattle.table_format.specs.Text.{number}

-- The kinds of the lines: `20`, `2D`, `2E` and `2F` in base sixteen.

abbrev pub reading_kind : ℕ
reading_kind = 32

abbrev pub limit_kind : ℕ
limit_kind = 45

abbrev pub refusal_kind : ℕ
refusal_kind = 46

abbrev pub end_kind : ℕ
end_kind = 47

-- "`20`, ordinal (two), length (two), letters for each reading"
abbrev pub reading_line : ℕ → List ℕ → List ℕ
reading_line ordinal letters = reading_kind ∷ (number ordinal ++ (number (length letters) ++ letters))

-- "`2F` and the count (two) at the end"
abbrev pub end_line : ℕ → List ℕ
end_line count = end_kind ∷ number count

-- "`2D` and the count after 1,000 readings, or after 65,536 calls"
abbrev pub limit_line : ℕ → List ℕ
limit_line count = limit_kind ∷ number count

-- "on a refusal, `2E` and its number in one byte"
abbrev pub number_line : ℕ → List ℕ
number_line number = refusal_kind ∷ number ∷ []

abbrev pub refusal_line : Refusal → List ℕ
refusal_line r = number_line (number_of r)

-- Sizes.

-- "4,096 letters of output"
abbrev pub output_letters : ℕ
output_letters = 4096

-- the most characters of a line: those of a reading with as many letters, and five bytes before them
abbrev pub line_characters : ℕ
line_characters = characters_of (5 + output_letters)

-- A line in a buffer.

-- its text at the front, the rest as it was
abbrev pub stored_line : List ℕ → List ℕ → List ℕ
stored_line bytes buffer = line_text bytes ++ drop (length (line_text bytes)) buffer

-- how many characters were stored, and the buffer before and after
abbrev pub LineStored : List ℕ → ℕ → List ℕ → List ℕ → Type 0
LineStored bytes size before after = (size ≡ length (line_text bytes)) × (after ≡ stored_line bytes before)
