-- A sheet's opening and last line read back: document 01's "fixed byte strings for opening and closing lines, written and compared exactly".
use Rattle.std.specs.Prelude.{ℕ, ◌-◌, Bool, true, false, cond, ◌&&◌, List, [], ◌∷◌, eqb, length, take, drop, Option, Some, None}
use Rattle.sheet.specs.declared.LastWord.{LastWord}
use Rattle.sheet.specs.declared.LastWord.TheVariants.{End, More}
use Rattle.sheet_lines.specs.Lines.{line_size, filled}
use Rattle.sheet.specs.Sheet.{opening_word, last_word}

-- whether two texts are the same, character by character
abbrev pub same : List ℕ → List ℕ → Bool
same [] [] = true
same [] (y ∷ ys) = false
same (x ∷ xs) [] = false
same (x ∷ xs) (y ∷ ys) = eqb x y && same xs ys

-- whether text opens with the line `READINGS`
unfoldable pub opens_with : List ℕ → Bool
opens_with text = same (take line_size text) (filled opening_word)

-- whether it closes with the line `END`, or `MORE`: the last 73 characters are that line
abbrev pub last_line : List ℕ → List ℕ
last_line text = drop (length text - line_size) text

abbrev pub closes_with : List ℕ → Bool → Bool
closes_with text ended = same (last_line text) (filled (last_word ended))

unfoldable pub last_word_in : List ℕ → Option LastWord
last_word_in text = cond (closes_with text true) (Some End) (cond (closes_with text false) (Some More) None)
