-- Worked examples, computed.
use Prim.Native.Nat.{ℕ}
use mathlib.Core.Path.{◌≡◌, refl}
use mathlib.Core.Bool.{true, false}
use mathlib.Core.Option.{none, some}
use mathlib.Core.List.{List, [], ◌∷◌, ◌++◌, map}
use lib.ListN.{replicate}
use Rattle.table_format.specs.Rules.{each}
use Rattle.table_format.specs.Index.{tabulate}
use Rattle.refusal.specs.declared.InputCause.TheVariants.{SheetFault}
use Rattle.refusal.specs.declared.StateCause.TheVariants.{DestinationShort}
use Rattle.refusal.specs.declared.Refusal.TheVariants.{Input, State}
use Rattle.std.specs.Prelude.{Some, None, Ok, Err}
use Rattle.faces.specs.Faces.{faces_hold, face_of}
use Rattle.faces.specs.Lent.{lent_bytes, lent_from, lent_in, readings_hold, list_holds, list_of}
use Rattle.sheet.specs.declared.LastWord.TheVariants.{End, More}
use Rattle.sheet_lines.specs.Lines.{filled, ordinal_columns, rows_of, first_line, next_line, reading_lines, lines_for}
use Rattle.sheet.specs.Sheet.{sheet_of}
use Rattle.sheet.specs.Read.{opens_with, last_word_in}
use Rattle.sheet.specs.Calls.{write_answer}

-- faces 33 to 95
abbrev faces : List ℕ
faces = tabulate (λ i. i) 33 63

faces_hold_lem : faces_hold faces ≡ true
unfolding faces_hold each
faces_hold_lem = refl

-- one fewer, a blank among them, one repeated
faces_62 : faces_hold (tabulate (λ i. i) 33 62) ≡ false
unfolding faces_hold
faces_62 = refl

faces-blank : faces_hold (tabulate (λ i. i) 32 63) ≡ false
unfolding faces_hold each
faces-blank = refl

faces_repeat : faces_hold (tabulate (λ i. i) 33 62 ++ (33 ∷ [])) ≡ false
unfolding faces_hold each
faces_repeat = refl

ordinal_1 : ordinal_columns 1 ≡ 32 ∷ 32 ∷ 32 ∷ 32 ∷ 49 ∷ []
ordinal_1 = refl

ordinal_40 : ordinal_columns 40 ≡ 32 ∷ 32 ∷ 32 ∷ 52 ∷ 48 ∷ []
ordinal_40 = refl

ordinal_1000 : ordinal_columns 1000 ≡ 32 ∷ 49 ∷ 48 ∷ 48 ∷ 48 ∷ []
ordinal_1000 = refl

-- an empty reading takes one line, 66 letters one, 67 two
lines_0 : reading_lines 7 [] ≡ (32 ∷ 32 ∷ 32 ∷ 32 ∷ 55 ∷ replicate 67 32 ++ (10 ∷ [])) ∷ []
unfolding reading_lines first_line rows_of filled
lines_0 = refl

lines_66 : reading_lines 12 (map (face_of faces) (replicate 66 3)) ≡ (32 ∷ 32 ∷ 32 ∷ 49 ∷ 50 ∷ 32 ∷ replicate 66 35 ++ (10 ∷ [])) ∷ []
unfolding reading_lines first_line rows_of filled
lines_66 = refl

lines_67 : reading_lines 12 (map (face_of faces) (replicate 66 3 ++ (63 ∷ [])))
    ≡ (32 ∷ 32 ∷ 32 ∷ 49 ∷ 50 ∷ 32 ∷ replicate 66 35 ++ (10 ∷ [])) ∷ (replicate 6 32 ++ (95 ∷ replicate 65 32 ++ (10 ∷ []))) ∷ []
unfolding reading_lines first_line next_line rows_of filled
lines_67 = refl

count_0 : lines_for 0 ≡ 1
count_0 = refl

count_66 : lines_for 66 ≡ 1
count_66 = refl

count_67 : lines_for 67 ≡ 2
count_67 = refl

-- two readings lent, the second empty; one cut short, and a length cut short
lent_two : lent_in (0 ∷ 2 ∷ 5 ∷ 6 ∷ 0 ∷ 0 ∷ []) ≡ some ((5 ∷ 6 ∷ []) ∷ [] ∷ [])
unfolding lent_in lent_from
lent_two = refl

bytes-two : lent_bytes ((5 ∷ 6 ∷ []) ∷ [] ∷ []) ≡ 0 ∷ 2 ∷ 5 ∷ 6 ∷ 0 ∷ 0 ∷ []
unfolding lent_bytes
bytes-two = refl

lent-short : lent_in (0 ∷ 2 ∷ 5 ∷ 6 ∷ 0 ∷ 1 ∷ []) ≡ none
unfolding lent_in lent_from
lent-short = refl

lent_half : lent_in (0 ∷ []) ≡ none
unfolding lent_in
lent_half = refl

-- 1,000 empty readings, and one more
list_1000 : list_holds (replicate 2000 0) ≡ true
unfolding list_holds lent_in lent_from readings_hold
list_1000 = refl

list_1001 : list_holds (replicate 2002 0) ≡ false
unfolding list_holds lent_in lent_from readings_hold
list_1001 = refl

-- a sheet of two readings: READINGS, the letters' faces after 1, nothing after 2, MORE
sheet-two : sheet_of faces ((5 ∷ 6 ∷ []) ∷ [] ∷ []) false
    ≡ (82 ∷ 69 ∷ 65 ∷ 68 ∷ 73 ∷ 78 ∷ 71 ∷ 83 ∷ replicate 64 32 ++ (10 ∷ []))
    ++ ((32 ∷ 32 ∷ 32 ∷ 32 ∷ 49 ∷ 32 ∷ 37 ∷ 38 ∷ replicate 64 32 ++ (10 ∷ []))
    ++ ((32 ∷ 32 ∷ 32 ∷ 32 ∷ 50 ∷ replicate 67 32 ++ (10 ∷ []))
    ++ (77 ∷ 79 ∷ 82 ∷ 69 ∷ replicate 68 32 ++ (10 ∷ []))))
unfolding sheet_of reading_lines first_line rows_of filled
sheet-two = refl

-- its lines read back; READINGS alone is not a last line
opens_two : opens_with (sheet_of faces ((5 ∷ 6 ∷ []) ∷ [] ∷ []) false) ≡ true
unfolding opens_with sheet_of reading_lines first_line rows_of filled
opens_two = refl

last-two : last_word_in (sheet_of faces ((5 ∷ 6 ∷ []) ∷ [] ∷ []) false) ≡ Some More
unfolding last_word_in sheet_of reading_lines first_line rows_of filled
last-two = refl

last_end : last_word_in (sheet_of faces [] true) ≡ Some End
unfolding last_word_in sheet_of filled
last_end = refl

last-neither : last_word_in (filled (82 ∷ 69 ∷ 65 ∷ 68 ∷ 73 ∷ 78 ∷ 71 ∷ 83 ∷ [])) ≡ None
unfolding last_word_in filled
last-neither = refl

-- an empty list takes two lines; 24 with one character less, and 33 before 24
answer_146 : write_answer [] faces true (replicate 146 0) ≡ Ok 146
unfolding write_answer lent_in list_holds list_of faces_hold each readings_hold sheet_of filled
answer_146 = refl

answer_24 : write_answer [] faces true (replicate 145 0) ≡ Err (State DestinationShort)
unfolding write_answer lent_in list_holds list_of faces_hold each readings_hold sheet_of filled
answer_24 = refl

answer_33 : write_answer (0 ∷ 1 ∷ 64 ∷ []) faces true [] ≡ Err (Input SheetFault)
unfolding write_answer lent_in lent_from list_holds list_of faces_hold each readings_hold sheet_of filled
answer_33 = refl

-- an empty list, with END spelled out
sheet-none : sheet_of faces [] true ≡ (82 ∷ 69 ∷ 65 ∷ 68 ∷ 73 ∷ 78 ∷ 71 ∷ 83 ∷ replicate 64 32 ++ (10 ∷ [])) ++ (69 ∷ 78 ∷ 68 ∷ replicate 69 32 ++ (10 ∷ []))
unfolding sheet_of filled
sheet-none = refl

-- 133 letters take three lines
lines_133 : reading_lines 12 (map (face_of faces) (replicate 66 3 ++ (replicate 66 4 ++ (63 ∷ []))))
    ≡ (32 ∷ 32 ∷ 32 ∷ 49 ∷ 50 ∷ 32 ∷ replicate 66 35 ++ (10 ∷ [])) ∷ (replicate 6 32 ++ (replicate 66 36 ++ (10 ∷ []))) ∷ (replicate 6 32 ++ (95 ∷ replicate 65 32 ++ (10 ∷ []))) ∷ []
unfolding reading_lines first_line next_line rows_of filled
lines_133 = refl

-- letters 1 and 63 are letters, 0 and 64 are none
list_63 : list_holds (0 ∷ 2 ∷ 1 ∷ 63 ∷ []) ≡ true
unfolding list_holds lent_in lent_from readings_hold
list_63 = refl

list_0 : list_holds (0 ∷ 1 ∷ 0 ∷ []) ≡ false
unfolding list_holds lent_in lent_from readings_hold
list_0 = refl

-- faces up to 126 hold, 127 is none
faces_126 : faces_hold (tabulate (λ i. i) 64 63) ≡ true
unfolding faces_hold each
faces_126 = refl

faces_127 : faces_hold (tabulate (λ i. i) 65 63) ≡ false
unfolding faces_hold each
faces_127 = refl
