-- Document 02, slip 6: "Letters 64 to 71 on an arc shall mean one letter of class 0 to 7, and each class lists 1 to 16 letters from 1 to 63,
-- rising." A table's classes are eight rows of sixteen cells: the letters of the class, filled up with 0.
use Rattle.std.specs.Prelude.{ℕ, zero, suc, ◌-◌, Bool, ◌&&◌, List, [], ◌∷◌, ◌++◌, ltb, length, get_or, replicate}
use Rattle.table_format.specs.Table.{Arc}

-- the rows of a table, and the cells of a row
abbrev pub class_count : ℕ
class_count = 8

abbrev pub row_width : ℕ
row_width = 16

-- the letter that means class 0
abbrev pub first_class : ℕ
first_class = 64

-- the row of some letters
abbrev pub row_with : List ℕ → List ℕ
row_with letters = letters ++ replicate (row_width - length letters) 0

-- the letters of a row
abbrev pub letters_in : List ℕ → List ℕ
letters_in [] = []
letters_in (zero ∷ row) = []
letters_in (suc x ∷ row) = suc x ∷ letters_in row

-- a class is defined where its row begins with a letter
abbrev pub is_defined : List ℕ → Bool
is_defined row = ltb 0 (get_or row 0 0)

-- the rows of a table without classes
unfoldable pub no_classes : List (List ℕ)
no_classes = replicate class_count (row_with [])

-- an arc without a class
abbrev pub is_plain : Arc → Bool
is_plain a = ltb a.upper first_class && ltb a.lower first_class

-- the row of the class that a letter means
abbrev pub row_of : List (List ℕ) → ℕ → List ℕ
row_of rows x = get_or rows (x - first_class) []

-- an arc with one letter on both sides
abbrev pub with_letter : Arc → ℕ → Arc
with_letter a x = record { source = a.source; upper = x; lower = x; target = a.target; penalty = a.penalty }
