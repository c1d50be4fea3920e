-- Document 01, "Lines of the text": "The session reads a table, through the first line that begins with 05, then exactly one query".
use Rattle.std.specs.Prelude.{ℕ, ◌+◌, Bool, cond, ◌&&◌, List, [], ◌∷◌, eqb, get_or, take, drop}
use Rattle.table_format.specs.Line.{Line, lines_of, size_of}

-- "begins with 05": characters 48 and 53
abbrev pub begins05 : List ℕ → Bool
begins05 cs = eqb (get_or cs 0 0) 48 && eqb (get_or cs 1 0) 53

-- how many characters stand "through the first line that begins with 05"; all where there is none
unfoldable pub size_through : List Line → ℕ
size_through [] = 0
size_through (l ∷ ls) = size_of l + cond (begins05 l.chars) 0 (size_through ls)

abbrev pub table_size : List ℕ → ℕ
table_size input = size_through (lines_of input)

-- the table's text, and the query's
abbrev pub table_text : List ℕ → List ℕ
table_text input = take (table_size input) input

abbrev pub query_text : List ℕ → List ℕ
query_text input = drop (table_size input) input
