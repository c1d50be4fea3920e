-- Document 01, "Turned down for the input", 3 to 8, and document 02's 34: for a header and for each item of a table, the refusals that it
-- earns, by rising number but for 34, which is "looked for right after 5". An item is judged by the table's states and classes and by the
-- items of its kind before it.
use Rattle.std.specs.Prelude.{ℕ, Bool, true, false, not, ◌&&◌, ◌||◌, List, [], ◌∷◌, ◌++◌, eqb, leb, ltb, length, drop}
use Rattle.refusal.specs.declared.InputCause.{InputCause}
use Rattle.refusal.specs.declared.InputCause.TheVariants.{CountLimit, StateNumber, LetterLimit, StateOrder, SourceOrder, ArcRepeated, ClassFault}
use Rattle.table_format.specs.Table.{Arc, Table, Counts, counts_of}
use Rattle.table_format.specs.Classes.{class_count, row_width, letters_in, is_defined, is_plain, row_of}

-- Tests on lists.

abbrev pub is_empty : {A : Type 0} → List A → Bool
is_empty [] = true
is_empty (x ∷ xs) = false

-- some element passes the test
abbrev pub any : {A : Type 0} → (A → Bool) → List A → Bool
any test [] = false
any test (x ∷ xs) = test x || any test xs

-- the last element, if there is one, passes the test
abbrev pub last_is : {A : Type 0} → (A → Bool) → List A → Bool
last_is test [] = true
last_is test (x ∷ []) = test x
last_is test (x ∷ y ∷ ys) = last_is test (y ∷ ys)

-- each element, with those before it, passes the test
unfoldable pub each : {A : Type 0} → (List A → A → Bool) → List A → List A → Bool
each test before [] = true
each test before (x ∷ xs) = test before x && each test (before ++ (x ∷ [])) xs

-- The rules: what holds where a rule is kept.

-- 3: each count is within its limit
unfoldable pub counts_hold : Counts → Bool
counts_hold c =
    leb 1 c.states
    && (leb c.states 256 && (leb 1 c.initials && (leb c.initials c.states && (leb c.terminals c.states && leb c.arcs 1024))))

-- 4: a state number is below the count of states
abbrev pub state_holds : ℕ → ℕ → Bool
state_holds states s = ltb s states

-- 5: "begins at 72"
abbrev pub letter_holds : ℕ → Bool
letter_holds x = ltb x 72

-- 34: letters from 1 to 63, the first above m, each other above the one before it
abbrev pub letters_rise : ℕ → List ℕ → Bool
letters_rise m [] = true
letters_rise m (x ∷ xs) = (ltb m x && leb x 63) && letters_rise x xs

-- 34: a class is one of 0 to 7, none of those from it on is defined yet ("by rising class"), and its letters rise
unfoldable pub class_holds : List (List ℕ) → ℕ → List ℕ → Bool
class_holds rows c letters = ltb c class_count && (not (any is_defined (drop c rows)) && letters_rise 0 letters)

-- 34: an arc has no class, or a defined one, the same on both sides
unfoldable pub arc_class_holds : List (List ℕ) → Arc → Bool
arc_class_holds rows a = is_plain a || (eqb a.upper a.lower && is_defined (row_of rows a.upper))

-- 6: an initial state is not among those before it
abbrev pub initial_is_new : List ℕ → ℕ → Bool
initial_is_new before s = not (any (λ r. eqb r s) before)

-- 6: a terminal state is above the one before it
abbrev pub terminal_rises : List ℕ → ℕ → Bool
terminal_rises before s = last_is (λ r. ltb r s) before

-- 7: an arc's source is not below that of the one before it
abbrev pub source_holds : List Arc → Arc → Bool
source_holds before a = last_is (λ b. leb b.source a.source) before

-- 8: an arc equals none before it; "Arcs are still compared for equality without" their penalties
abbrev pub same_arc : Arc → Arc → Bool
same_arc a b = eqb a.source b.source && (eqb a.upper b.upper && (eqb a.lower b.lower && eqb a.target b.target))

abbrev pub arc_is_new : List Arc → Arc → Bool
arc_is_new before a = not (any (λ b. same_arc b a) before)

-- What a header and an item earn.

abbrev pub unless : Bool → InputCause → List InputCause
unless true cause = []
unless false cause = cause ∷ []

unfoldable pub header_faults : Counts → List InputCause
header_faults c = unless (counts_hold c) CountLimit

unfoldable pub initial_faults : ℕ → List ℕ → ℕ → List InputCause
initial_faults states before s = unless (state_holds states s) StateNumber ++ unless (initial_is_new before s) StateOrder

unfoldable pub terminal_faults : ℕ → List ℕ → ℕ → List InputCause
terminal_faults states before s = unless (state_holds states s) StateNumber ++ unless (terminal_rises before s) StateOrder

unfoldable pub class_faults : List (List ℕ) → ℕ → List ℕ → List InputCause
class_faults rows c letters = unless (class_holds rows c letters) ClassFault

-- what an arc earns, by whether its states, its letters, its class and its source hold, and whether it is new
abbrev pub arc_earns : Bool → Bool → Bool → Bool → Bool → List InputCause
arc_earns states letters class source new =
    unless states StateNumber ++ (unless letters LetterLimit ++ (unless class ClassFault ++ (unless source SourceOrder ++ unless new ArcRepeated)))

unfoldable pub arc_faults : ℕ → List (List ℕ) → List Arc → Arc → List InputCause
arc_faults states rows before a =
    arc_earns (state_holds states a.source && state_holds states a.target) (letter_holds a.upper && letter_holds a.lower) (arc_class_holds rows a)
    (source_holds before a) (arc_is_new before a)

-- A table keeps the rules where its rows hold classes, its penalties are within their limit and its counts and other items earn no refusal.

-- only 0
abbrev pub is_blank : List ℕ → Bool
is_blank cells = not (any (λ x. ltb 0 x) cells)

-- a row holds letters that rise, sixteen at most, and is filled up with 0
unfoldable pub row_holds : List ℕ → Bool
row_holds row = eqb (length row) row_width && (letters_rise 0 (letters_in row) && is_blank (drop (length (letters_in row)) row))

unfoldable pub classes_keep : List (List ℕ) → Bool
classes_keep rows = eqb (length rows) class_count && each (λ before row. row_holds row) [] rows

abbrev pub initials_keep : ℕ → List ℕ → Bool
initials_keep states = each (λ before s. is_empty (initial_faults states before s)) []

abbrev pub terminals_keep : ℕ → List ℕ → Bool
terminals_keep states = each (λ before s. is_empty (terminal_faults states before s)) []

abbrev pub arcs_keep : ℕ → List (List ℕ) → List Arc → Bool
arcs_keep states rows = each (λ before a. is_empty (arc_faults states rows before a)) []

-- "a penalty of 0 to 255": a byte of a text is always one, a cell of a loaded table need not be
abbrev pub penalty_holds : Arc → Bool
penalty_holds a = leb a.penalty 255

abbrev pub penalties_keep : List Arc → Bool
penalties_keep = each (λ before a. penalty_holds a) []

unfoldable pub keeps_rules : Table → Bool
keeps_rules t =
    is_empty (header_faults (counts_of t))
    && (classes_keep t.classes
    && (initials_keep t.states t.initials && (terminals_keep t.states t.terminals && (arcs_keep t.states t.classes t.arcs && penalties_keep t.arcs))))
