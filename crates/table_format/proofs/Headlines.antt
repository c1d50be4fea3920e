-- The theorems about tables, their cells and their text, stated together. What each one means is in specs/; how it is shown is in the files
-- that it names.
use Prim.Native.Nat.{ℕ, ◌+◌, ◌*◌, ◌≤◌, ◌<◌}
use mathlib.Core.Path.{◌≡◌, ap, ◌∙◌}
use mathlib.Core.Logic.{◌↔◌, ◌⊎◌}
use mathlib.Core.Bool.{true, false}
use mathlib.Core.Option.{some}
use mathlib.Core.List.{List, [], ◌∷◌, ◌++◌, map, Memᴰ}
use lib.ListN.{length, get_or, take, drop}
use lib.Seq.{drop-drop}
use Rattle.refusal.specs.declared.InputCause.{InputCause}
use Rattle.refusal.specs.declared.InputCause.TheVariants.{Misplaced, LetterLimit, SourceOrder, ArcRepeated, ClassFault}
use Rattle.table_format.specs.Table.{Arc, Table, Counts, no_arc, without_penalty, counts_of}
use Rattle.table_format.specs.Classes.{is_defined, is_plain, row_of}
use Rattle.table_format.specs.Rules.{unless, class_holds, source_holds, arc_is_new, arc_faults, keeps_rules}
use Rattle.table_format.specs.Ruled.{Rise, ClassRow, Ruled}
use Rattle.table_format.specs.Loaded.{cells_of, counts_in, arcs_at, table_in, loaded}
use Rattle.table_format.specs.Line.{lines_of, line_text}
use Rattle.table_format.specs.Text.{header_bytes, class_bytes, initial_bytes, terminal_bytes, field_bytes, arc_bytes, end_bytes, class_lines, lines_before, join_lines, text_of}
use Rattle.table_format.specs.Parse.{arc, class_from, letters_from, opening, within, due, item_faults, bytes_faults, accepted, turned_down, parsed}
use Rattle.table_format.specs.FirstBad.{FirstBad, LineMissing}
use Rattle.table_format.proofs.Ruled as rules
use Rattle.table_format.proofs.Classes as rows
use Rattle.table_format.proofs.Loaded as cells
use Rattle.table_format.proofs.Text as parts
use Rattle.table_format.proofs.ClassLines as lines
use Rattle.table_format.proofs.ClassFaults as class
use Rattle.table_format.proofs.Penalties as penalties
use Rattle.table_format.proofs.Determine as texts
use Rattle.table_format.proofs.FirstBad as faults

-- THE RULES: a table keeps them exactly where it is as "Table and paths" and "Lines of the text" say, fact by fact (`Ruled`): "No two arcs
-- agree in all four fields" is its `arcs-differ`, where penalties do not count, "An arc with a class carries the same class on both sides" its
-- `class_alike`, "An arc may carry a penalty of 0 to 255" its `penalty_in`.
pub rules-are : (t : Table) → (keeps_rules t ≡ true) ↔ Ruled t
rules-are = rules.rules-are

-- "each class lists 1 to 16 letters from 1 to 63, rising": `ClassRow` says all but the 1.
pub class_lists : (t : Table) → keeps_rules t ≡ true → (row : List ℕ) → Memᴰ row t.classes → is_defined row ≡ true → (R : ClassRow row) × (1 ≤ length R.letters)
class_lists = class.class_lists

-- "TABLE AND TEXT DETERMINE EACH OTHER": a text gives a table exactly where the table keeps the rules and the text is its text.
pub determines : (x : List ℕ) (t : Table) → (parsed x ≡ accepted t) ↔ ((keeps_rules t ≡ true) × (x ≡ text_of t))
determines = texts.determines

-- so no two tables that keep the rules have one text
pub text_injective : (t u : Table) → keeps_rules t ≡ true → keeps_rules u ≡ true → text_of t ≡ text_of u → t ≡ u
text_injective = texts.text_injective

-- and a text is turned down exactly where it is the text of no table that keeps the rules
pub nobodys_text : (x : List ℕ) → ((c : InputCause) × (parsed x ≡ turned_down c)) ↔ ((t : Table) → keeps_rules t ≡ true → x ≡ text_of t → ⊥)
nobodys_text = texts.nobodys_text

-- "CLASS LINES STAND AFTER THE HEADER": a table's text is the header line, the class lines, those of the states and arcs, and the end line.
pub text-parts : (t : Table)
    → text_of t
    ≡ line_text (header_bytes (counts_of t))
    ++ (join_lines (class_lines 0 t.classes)
    ++ (join_lines (map initial_bytes t.initials)
    ++ (join_lines (map terminal_bytes t.terminals) ++ (join_lines (map arc_bytes t.arcs) ++ line_text (end_bytes (lines_before t))))))
text-parts = parts.text-parts

-- "kind `06`, class (one byte), letters": the class lines are those of the defined classes,
pub class_lines_lem : (t : Table) (b : List ℕ)
    → Memᴰ b (class_lines 0 t.classes)
    ↔ ((c : ℕ) × (c < length t.classes) × (is_defined (get_or t.classes c []) ≡ true) × (b ≡ class_bytes c (get_or t.classes c [])))
class_lines_lem t = lines.lines_are t.classes

-- "by rising class",
pub class_lines-rise : (t : Table) → Rise (map class_from (class_lines 0 t.classes))
class_lines-rise t = lines.lines-rise 0 t.classes

-- "there are 0 to 8".
pub class_lines-few : (t : Table) → keeps_rules t ≡ true → length (class_lines 0 t.classes) ≤ 8
class_lines-few = parts.classes-few

-- "05 count of lines before", "and the end line counts them": the text of a table is that of some lines (by `text-parts` the class lines are
-- among them) and of an end line that tells how many they are.
pub end-tells : (t : Table) → (ls : List (List ℕ)) × (text_of t ≡ join_lines (ls ++ (end_bytes (length ls) ∷ [])))
end-tells = texts.end-tells

-- "THE FIRST BAD LINE WINS, within it the lowest number; a missing line counts as standing at the end." A line's faults are looked for in the
-- order of their numbers, but 34 "right after 5" (`rank_of`).
pub first-bad : (x : List ℕ) (c : InputCause) → (parsed x ≡ turned_down c) ↔ (FirstBad opening (lines_of x) c ⊎ LineMissing opening (lines_of x) c)
unfolding parsed
first-bad x = faults.decided opening (lines_of x)

-- WHAT A CLASS LINE EARNS, before the initial states: "A class line of other than 3 to 18 bytes gives 2",
pub class_line-length : (c : Counts) (t : Table) (b : List ℕ) → get_or b 0 0 ≡ 6 → t.initials ≡ [] → (length b < 3) ⊎ (18 < length b)
    → bytes_faults (within c t) b ≡ Misplaced ∷ []
class_line-length = class.line-length

-- "one out of its limits or its place by class" gives 34 (`class_holds`),
pub class_line_34 : (c : Counts) (t : Table) (b : List ℕ) → get_or b 0 0 ≡ 6 → t.initials ≡ [] → 3 ≤ length b → length b ≤ 18
    → bytes_faults (within c t) b ≡ unless (class_holds t.classes (class_from b) (letters_from b)) ClassFault
class_line_34 = class.line_class

-- and one after them is out of place: 2.
pub class_line_late : (c : Counts) (t : Table) (b : List ℕ) → get_or b 0 0 ≡ 6 → 0 < length t.initials → bytes_faults (within c t) b ≡ Misplaced ∷ []
class_line_late = class.line_late

-- "Letters 64 to 71 on an arc shall mean one letter of class 0 to 7": an arc has a class where one of its letters is 64 or more, and letter 64 + c
-- means the row of class c.
pub plain-is : (a : Arc) → (is_plain a ≡ true) ↔ ((a.upper < 64) × (a.lower < 64))
plain-is = class.plain-is

pub class_row : (rows : List (List ℕ)) (c : ℕ) → row_of rows (64 + c) ≡ get_or rows c []
class_row = class.class_row

-- WHAT AN ARC EARNS by its letters, where its states hold: "Refusal 5 begins at 72" and is looked for before 34;
pub letter_72 : (states : ℕ) (rows : List (List ℕ)) (before : List Arc) (a : Arc) → a.source < states → a.target < states
    → (72 ≤ a.upper) ⊎ (72 ≤ a.lower) → (fs : List InputCause) × (arc_faults states rows before a ≡ LetterLimit ∷ fs)
letter_72 = class.letter-beyond

-- "an undefined class or unlike sides give 34, looked for right after 5", alone or before 7 and 8,
pub class_34 : (states : ℕ) (rows : List (List ℕ)) (before : List Arc) (a : Arc) → a.source < states → a.target < states → a.upper < 72 → a.lower < 72
    → is_plain a ≡ false → (a.upper ≡ a.lower → is_defined (row_of rows a.upper) ≡ false)
    → arc_faults states rows before a ≡ ClassFault ∷ (unless (source_holds before a) SourceOrder ++ unless (arc_is_new before a) ArcRepeated)
class_34 = class.class_wrong

-- and nothing else does: an arc without a class, or with a defined one on both sides, earns 7 and 8 alone,
pub class_right : (states : ℕ) (rows : List (List ℕ)) (before : List Arc) (a : Arc) → a.source < states → a.target < states → a.upper < 72 → a.lower < 72
    → (is_plain a ≡ false → (a.upper ≡ a.lower) × (is_defined (row_of rows a.upper) ≡ true))
    → arc_faults states rows before a ≡ unless (source_holds before a) SourceOrder ++ unless (arc_is_new before a) ArcRepeated
class_right = class.class_right

-- "so letter 64 without its class now gives 34".
pub letter_64 : (states : ℕ) (rows : List (List ℕ)) (before : List Arc) (a : Arc) → a.source < states → a.target < states → a.upper < 72 → a.lower < 72
    → (a.upper ≡ 64) ⊎ (a.lower ≡ 64) → is_defined (get_or rows 0 []) ≡ false
    → arc_faults states rows before a ≡ ClassFault ∷ (unless (source_holds before a) SourceOrder ++ unless (arc_is_new before a) ArcRepeated)
letter_64 = class.letter_64

-- PENALTIES (document 02, slip 10): "kind `07` is kind `04` with a penalty byte at the end, used exactly when the penalty is not 0",
pub line-without : (a : Arc) → a.penalty ≡ 0 → arc_bytes a ≡ 4 ∷ field_bytes a
line-without = penalties.line-without

pub line_with_lem : (a : Arc) → (a.penalty ≡ 0 → ⊥) → arc_bytes a ≡ 7 ∷ (field_bytes a ++ (a.penalty ∷ []))
line_with_lem = penalties.line_with_lem

-- "(a 0 there gives 2)", as does another length; any other line of that kind is judged as an arc's, where one is due.
pub penalty-none : (c : Counts) (t : Table) (b : List ℕ) → due c t b ≡ arc → get_or b 0 0 ≡ 7 → get_or b 7 0 ≡ 0 → bytes_faults (within c t) b ≡ Misplaced ∷ []
penalty-none = penalties.penalty-none

pub penalty-length : (c : Counts) (t : Table) (b : List ℕ) → due c t b ≡ arc → get_or b 0 0 ≡ 7 → (length b ≡ 8 → ⊥) → bytes_faults (within c t) b ≡ Misplaced ∷ []
penalty-length = penalties.penalty-length

pub penalty-judged : (c : Counts) (t : Table) (b : List ℕ) → due c t b ≡ arc → get_or b 0 0 ≡ 7 → length b ≡ 8 → (get_or b 7 0 ≡ 0 → ⊥)
    → bytes_faults (within c t) b ≡ item_faults arc t b
penalty-judged = penalties.penalty-judged

-- "Arcs are still compared for equality without it": one that agrees with an arc before it but for the penalty is not new (8).
pub equal_but_penalty : (before : List Arc) (a : Arc) (k : ℕ) → k < length before → without_penalty (get_or before k no_arc) ≡ without_penalty a → arc_is_new before a ≡ false
equal_but_penalty = penalties.equal_but_penalty

-- CELLS AND TABLE determine each other: cells hold a table exactly where it keeps the rules and they begin with its cells. "In a loaded table
-- such faults give 20": cells whose classes break the rules hold none.
pub loads : (c : List ℕ) (t : Table) → (loaded c ≡ some t) ↔ ((keeps_rules t ≡ true) × (c ≡ cells_of t ++ drop (length (cells_of t)) c))
loads = cells.loads

-- Class k stands in its sixteen cells, from 4 + 16 × k on.
pub class_cells_lem : (c : List ℕ) (k : ℕ) → k < 8 → get_or (table_in c).classes k [] ≡ take 16 (drop (4 + 16 * k) c)
unfolding table_in
class_cells_lem c k h = rows.row_at 8 (drop 4 c) k h ∙ ap (take 16) (drop-drop (16 * k) 4 c)

-- The penalty of arc k is the last of its five cells.
pub penalty-cell : (c : List ℕ) (k : ℕ) → k < get_or c 3 0 → (get_or (table_in c).arcs k no_arc).penalty ≡ get_or c (arcs_at (counts_in c) + (5 * k + 4)) 0
penalty-cell = penalties.penalty-cell
