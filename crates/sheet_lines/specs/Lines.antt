-- Document 02, the answer sheet: "Lay the readings out on lines of exactly 72 characters plus a line feed." A line, and the lines of a
-- reading, whose letters are given as their faces.
use Rattle.std.specs.Prelude.{ℕ, zero, suc, ◌+◌, ◌-◌, ◌/◌, ◌%◌, cond, List, [], ◌∷◌, ◌++◌, map, ltb, length, take, drop, replicate}

-- characters of a line, and with its line feed; those before the letters of a reading, and for its letters
abbrev pub columns : ℕ
columns = 72

abbrev pub line_size : ℕ
line_size = 73

abbrev pub lead_columns : ℕ
lead_columns = 6

abbrev pub row_letters : ℕ
row_letters = 66

-- a line: characters, filled up with blanks, and the line feed
unfoldable pub filled : List ℕ → List ℕ
filled cs = cs ++ (replicate (columns - length cs) 32 ++ (10 ∷ []))

-- "its ordinal (1 to 1,000) right-aligned in 5 columns": in the column of a place the digit there, or a blank where the number is smaller
-- than the place
abbrev pub digit_at : ℕ → ℕ → ℕ
digit_at n place = cond (ltb n place) 32 (48 + n / place % 10)

abbrev pub ordinal_columns : ℕ → List ℕ
ordinal_columns n = digit_at n 10000 ∷ digit_at n 1000 ∷ digit_at n 100 ∷ digit_at n 10 ∷ (48 + n % 10) ∷ []

-- characters cut into so many rows of 66, and into as many as it takes
abbrev pub cut : ℕ → List ℕ → List (List ℕ)
cut zero cs = []
cut (suc n) cs = take row_letters cs ∷ cut n (drop row_letters cs)

unfoldable pub rows_of : List ℕ → List (List ℕ)
rows_of cs = cut ((length cs + (row_letters - 1)) / row_letters) cs

-- the line of a reading: "its ordinal .., a blank, and 66 columns for letters"; an empty reading has it too
unfoldable pub first_line : ℕ → List ℕ → List ℕ
first_line n cs = filled (ordinal_columns n ++ (32 ∷ take row_letters cs))

-- "longer readings go on in lines that begin with 6 blanks"
unfoldable pub next_line : List ℕ → List ℕ
next_line row = filled (replicate lead_columns 32 ++ row)

unfoldable pub reading_lines : ℕ → List ℕ → List (List ℕ)
reading_lines n cs = first_line n cs ∷ map next_line (rows_of (drop row_letters cs))

-- how many lines a reading of so many letters takes: one where it has 66 or fewer
abbrev pub lines_for : ℕ → ℕ
lines_for letters = 1 + (letters - 1) / row_letters

-- lines one after another
abbrev pub joined : List (List ℕ) → List ℕ
joined [] = []
joined (l ∷ ls) = l ++ joined ls
