-- A key has at most a reading for each line of its sheet.
use Rattle.std.specs.Prelude.{ℕ}

-- lines of the longest sheet
abbrev pub sheet_lines : ℕ
sheet_lines = 2002
