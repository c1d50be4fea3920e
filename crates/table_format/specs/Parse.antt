-- Document 01, "Turned down for the input", and document 02's 34: reading a text. Each line earns the refusals of the rules that it breaks,
-- in the order of Rules; one that breaks 1 or 2 says nothing that the others could judge. The first line that earns any decides. A missing
-- line counts as standing at the end.
use Rattle.std.specs.Prelude.{ℕ, suc, ◌+◌, ◌*◌, Bool, cond, not, ◌&&◌, ◌||◌, List, [], ◌∷◌, ◌++◌, eqb, leb, ltb, length, get_or, drop, set}
use Rattle.refusal.specs.declared.InputCause.{InputCause}
use Rattle.refusal.specs.declared.InputCause.TheVariants.{Malformed, Misplaced, LineCount}
use Rattle.table_format.specs.Table.{Arc, Table, Counts}
use Rattle.table_format.specs.Classes.{row_with, no_classes}
use Rattle.table_format.specs.Rules.{is_empty, unless, header_faults, class_faults, initial_faults, terminal_faults, arc_faults}
use Rattle.table_format.specs.Line.{Line, lines_of, malformed, bytes_of, characters_of}
use Rattle.table_format.specs.Text.{header_width, line_bytes, lines_before}

-- What a line's bytes say, where they are of its kind.

abbrev pub number_at : List ℕ → ℕ → ℕ
number_at b i = get_or b i 0 * 256 + get_or b (i + 1) 0

abbrev pub counts_from : List ℕ → Counts
counts_from b = record { states = number_at b 1; initials = number_at b 3; terminals = number_at b 5; arcs = number_at b 7 }

-- the eighth byte is the penalty; a line of kind `04` has none, and no penalty
abbrev pub arc_from : List ℕ → Arc
arc_from b = record { source = number_at b 1; upper = get_or b 3 0; lower = get_or b 4 0; target = number_at b 5; penalty = get_or b 7 0 }

abbrev pub class_from : List ℕ → ℕ
class_from b = get_or b 1 0

abbrev pub letters_from : List ℕ → List ℕ
letters_from b = drop 2 b

-- 2: a line has the first byte and the length in bytes of its place, or no other rule judges it.

abbrev pub has_form : ℕ → ℕ → List ℕ → Bool
has_form code width b = eqb (get_or b 0 0) code && eqb (length b) width

abbrev pub in_place : Bool → List InputCause → List InputCause
in_place has faults = cond has faults (Misplaced ∷ [])

-- the first byte of the header line
abbrev pub header_kind : ℕ
header_kind = 1

abbrev pub is_header : List ℕ → Bool
is_header b = has_form header_kind header_width b

-- The kinds of the lines after the header's, each with its first byte and its length; an arc's without a penalty.

pub data LineKind : Type 0 where
  class initial terminal arc end : LineKind

abbrev pub code_of : LineKind → ℕ
code_of class = 6
code_of initial = 2
code_of terminal = 3
code_of arc = 4
code_of end = 5

-- the bytes of a line; of a class's, the fewest
abbrev pub width_of : LineKind → ℕ
width_of class = 3
width_of initial = 3
width_of terminal = 3
width_of arc = 7
width_of end = 3

-- the characters, with the line feed, of the header line, of the line of a state or the end, and of an arc's without a penalty

abbrev pub header_line : ℕ
header_line = characters_of header_width

abbrev pub state_line : ℕ
state_line = characters_of (width_of initial)

abbrev pub arc_line : ℕ
arc_line = characters_of (width_of arc)

-- "kind `07` is kind `04` with a penalty byte at the end, used exactly when the penalty is not 0 (a 0 there gives 2)": its first byte and its length
abbrev pub penalty_kind : ℕ
penalty_kind = 7

abbrev pub penalty_width : ℕ
penalty_width = suc (width_of arc)

abbrev pub is_penalised : List ℕ → Bool
is_penalised b = has_form penalty_kind penalty_width b && not (eqb (arc_from b).penalty 0)

-- "A class line of other than 3 to 18 bytes gives 2"
abbrev pub is_of : LineKind → List ℕ → Bool
is_of class b = eqb (get_or b 0 0) (code_of class) && (leb (width_of class) (length b) && leb (length b) line_bytes)
is_of initial b = has_form (code_of initial) (width_of initial) b
is_of terminal b = has_form (code_of terminal) (width_of terminal) b
is_of arc b = has_form (code_of arc) (width_of arc) b || is_penalised b
is_of end b = has_form (code_of end) (width_of end) b

-- How far a text has been read: nothing yet; the header's counts and the items so far; all, with the end line.

pub data Progress : Type 0 where
  opening : Progress
  within : Counts → Table → Progress
  closed : Table → Progress

-- the kind of the next line, by the counts, where it is no class's
abbrev pub item_due : Counts → Table → LineKind
item_due c t =
    cond (ltb (length t.initials) c.initials) initial
    (cond (ltb (length t.terminals) c.terminals) terminal (cond (ltb (length t.arcs) c.arcs) arc end))

-- the kind of the next line, whose bytes are b: "class lines stand after the header", so one that begins as a class's is one while no initial
-- state has been read
abbrev pub due : Counts → Table → List ℕ → LineKind
due c t b = cond (is_empty t.initials && eqb (get_or b 0 0) (code_of class)) class (item_due c t)

-- a table by its parts
abbrev pub table_with : ℕ → List (List ℕ) → List ℕ → List ℕ → List Arc → Table
table_with s k i m a = record { states = s; classes = k; initials = i; terminals = m; arcs = a }

-- the table of a header line, with no item yet
abbrev pub empty_table : ℕ → Table
empty_table states = table_with states no_classes [] [] []

-- what a line of its kind earns: 4 to 9, and 34
unfoldable pub item_faults : LineKind → Table → List ℕ → List InputCause
item_faults class t b = class_faults t.classes (class_from b) (letters_from b)
item_faults initial t b = initial_faults t.states t.initials (number_at b 1)
item_faults terminal t b = terminal_faults t.states t.terminals (number_at b 1)
item_faults arc t b = arc_faults t.states t.classes t.arcs (arc_from b)
item_faults end t b = unless (eqb (number_at b 1) (lines_before t)) LineCount

abbrev pub kind_faults : LineKind → Table → List ℕ → List InputCause
kind_faults k t b = in_place (is_of k b) (item_faults k t b)

-- what a line's bytes earn, at each place; after the end line any text is misplaced
unfoldable pub bytes_faults : Progress → List ℕ → List InputCause
bytes_faults opening b = in_place (is_header b) (header_faults (counts_from b))
bytes_faults (within c t) b = kind_faults (due c t b) t b
bytes_faults (closed t) b = Misplaced ∷ []

unfoldable pub line_faults : Progress → Line → List InputCause
line_faults p l = cond (malformed l) (Malformed ∷ []) (bytes_faults p (bytes_of l.chars))

-- the progress after a line that earns none
abbrev pub added : LineKind → Counts → Table → List ℕ → Progress
added class c t b = within c (table_with t.states (set t.classes (class_from b) (row_with (letters_from b))) t.initials t.terminals t.arcs)
added initial c t b = within c (table_with t.states t.classes (t.initials ++ (number_at b 1 ∷ [])) t.terminals t.arcs)
added terminal c t b = within c (table_with t.states t.classes t.initials (t.terminals ++ (number_at b 1 ∷ [])) t.arcs)
added arc c t b = within c (table_with t.states t.classes t.initials t.terminals (t.arcs ++ (arc_from b ∷ [])))
added end c t b = closed t

unfoldable pub onward : Progress → List ℕ → Progress
onward opening b = within (counts_from b) (empty_table (counts_from b).states)
onward (within c t) b = added (due c t b) c t b
onward (closed t) b = closed t

-- What a text gives: a table, or the refusal of its first bad line.

pub data Parsed : Type 0 where
  accepted : Table → Parsed
  turned_down : InputCause → Parsed

abbrev pub decide : List InputCause → Parsed → Parsed
decide [] p = p
decide (f ∷ fs) p = turned_down f

-- no line is left: the end line has come, or it is missing
abbrev pub at_end : Progress → Parsed
at_end opening = turned_down Misplaced
at_end (within c t) = turned_down Misplaced
at_end (closed t) = accepted t

unfoldable pub parse_from : Progress → List Line → Parsed
parse_from p [] = at_end p
parse_from p (l ∷ ls) = decide (line_faults p l) (parse_from (onward p (bytes_of l.chars)) ls)

unfoldable pub parsed : List ℕ → Parsed
parsed text = parse_from opening (lines_of text)
