-- Document 02, the answer sheet: its opening line, the lines of the readings, its last line.
use Rattle.std.specs.Prelude.{ℕ, suc, ◌+◌, ◌*◌, Bool, true, false, List, [], ◌∷◌, ◌++◌, map, length}
use Rattle.faces.specs.Faces.{face_of}
use Rattle.sheet_lines.specs.Lines.{line_size, filled, reading_lines, lines_for, joined}

-- "Every sheet opens with the line `READINGS`, filled up with blanks": R E A D I N G S
abbrev pub opening_word : List ℕ
opening_word = 82 ∷ 69 ∷ 65 ∷ 68 ∷ 73 ∷ 78 ∷ 71 ∷ 83 ∷ []

-- "The last line is `END` if the run ended, else `MORE`, filled with blanks": E N D, M O R E
abbrev pub last_word : Bool → List ℕ
last_word true = 69 ∷ 78 ∷ 68 ∷ []
last_word false = 77 ∷ 79 ∷ 82 ∷ 69 ∷ []

-- the lines of readings, in the faces of their letters, from an ordinal on
abbrev pub list_lines : List ℕ → ℕ → List (List ℕ) → List (List ℕ)
list_lines faces n [] = []
list_lines faces n (w ∷ ws) = reading_lines n (map (face_of faces) w) ++ list_lines faces (suc n) ws

-- the sheet's lines, and the sheet
abbrev pub sheet_lines : List ℕ → List (List ℕ) → Bool → List (List ℕ)
sheet_lines faces ws ended = filled opening_word ∷ (list_lines faces 1 ws ++ (filled (last_word ended) ∷ []))

unfoldable pub sheet_of : List ℕ → List (List ℕ) → Bool → List ℕ
sheet_of faces ws ended = joined (sheet_lines faces ws ended)

-- how many lines readings take, and how many characters their sheet has: one line more before them and one after
abbrev pub lines_taken : List (List ℕ) → ℕ
lines_taken [] = 0
lines_taken (w ∷ ws) = lines_for (length w) + lines_taken ws

abbrev pub sheet_size : List (List ℕ) → ℕ
sheet_size ws = line_size * (2 + lines_taken ws)
