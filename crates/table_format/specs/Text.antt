-- Document 01, "Lines of the text", and document 02, slips 6 and 10: the text of a table. One item a line; a line's first byte is its kind;
-- numbers of two bytes, high byte first.
use Rattle.std.specs.Prelude.{ℕ, suc, ◌+◌, ◌/◌, ◌%◌, cond, List, [], ◌∷◌, ◌++◌, map, eqb, length}
use Rattle.table_format.specs.Table.{Arc, Table, Counts, counts_of}
use Rattle.table_format.specs.Classes.{row_width, letters_in, is_defined}
use Rattle.table_format.specs.Line.{line_text}

abbrev pub number : ℕ → List ℕ
number n = n / 256 ∷ n % 256 ∷ []

-- the bytes of each kind of line

abbrev pub header_bytes : Counts → List ℕ
header_bytes c = 1 ∷ (number c.states ++ (number c.initials ++ (number c.terminals ++ number c.arcs)))

-- "kind `06`, class (one byte), letters"
abbrev pub class_bytes : ℕ → List ℕ → List ℕ
class_bytes c row = 6 ∷ c ∷ letters_in row

abbrev pub initial_bytes : ℕ → List ℕ
initial_bytes s = 2 ∷ number s

abbrev pub terminal_bytes : ℕ → List ℕ
terminal_bytes s = 3 ∷ number s

-- the fields of an arc without its penalty
abbrev pub field_bytes : Arc → List ℕ
field_bytes a = number a.source ++ (a.upper ∷ a.lower ∷ number a.target)

-- "kind `07` is kind `04` with a penalty byte at the end, used exactly when the penalty is not 0"
abbrev pub arc_bytes : Arc → List ℕ
arc_bytes a = cond (eqb a.penalty 0) (4 ∷ field_bytes a) (7 ∷ (field_bytes a ++ (a.penalty ∷ [])))

abbrev pub end_bytes : ℕ → List ℕ
end_bytes n = 5 ∷ number n

-- the bytes of the header line
abbrev pub header_width : ℕ
header_width = 9

-- the most bytes of a line: those of a class of sixteen letters
abbrev pub line_bytes : ℕ
line_bytes = 2 + row_width

-- the lines of the defined ones of some classes, numbered from c on: "by rising class"
unfoldable pub class_lines : ℕ → List (List ℕ) → List (List ℕ)
class_lines c [] = []
class_lines c (row ∷ rows) = cond (is_defined row) (class_bytes c row ∷ class_lines (suc c) rows) (class_lines (suc c) rows)

-- how many lines stand before the end line: "there are 0 to 8 [class lines] and the end line counts them"
abbrev pub lines_before : Table → ℕ
lines_before t = 1 + length (class_lines 0 t.classes) + length t.initials + length t.terminals + length t.arcs

-- the lines after the header's, and the text

unfoldable pub item_lines : Table → List (List ℕ)
item_lines t =
    class_lines 0 t.classes
    ++ (map initial_bytes t.initials ++ (map terminal_bytes t.terminals ++ (map arc_bytes t.arcs ++ (end_bytes (lines_before t) ∷ []))))

unfoldable pub join_lines : List (List ℕ) → List ℕ
join_lines [] = []
join_lines (b ∷ bs) = line_text b ++ join_lines bs

unfoldable pub text_of : Table → List ℕ
text_of t = join_lines (header_bytes (counts_of t) ∷ item_lines t)
