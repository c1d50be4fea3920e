-- What the code of the reader holds of a table while it reads the lines after the header's.
use Rattle.std.specs.Prelude.{ℕ, ◌+◌, ◌-◌, ◌*◌, ◌≤◌, ◌<◌, ◌≡◌, Bool, true, cond, ◌&&◌, List, [], ◌∷◌, ◌++◌, eqb, ltb, length, get_or, take, drop, replicate, Result, Ok, Err}
use Rattle.refusal.specs.declared.InputCause.{InputCause}
use Rattle.refusal.specs.declared.InputCause.TheVariants.{Misplaced}
use Rattle.table_format.specs.Table.{Arc, Table, Counts}
use Rattle.table_format.specs.Classes.{row_width, row_with}
use Rattle.table_format.specs.Rules.{counts_hold, classes_keep, initials_keep, terminals_keep, arcs_keep}
use Rattle.table_format.specs.Loaded.{arc_width, classes_at, initials_at, most_cells, count_cells, rows_cells, arc_cells, arcs_cells, counts_in, classes_in, terminals_at, arcs_at, extent}
use Rattle.table_format.specs.Text.{lines_before}
use Rattle.table_format.specs.Parse.{LineKind, class, initial, terminal, arc, end, code_of, width_of, has_form, due, number_at, arc_from, class_from, letters_from}
use Rattle.table_format.specs.Cells.{arcs_as}
use Rattle.table_items.specs.declared.LineKind.{LineKind as CodedKind}
use Rattle.table_items.specs.declared.LineKind.TheVariants as Coded
use Rattle.table_rules.specs.Judge.{largest, state_key, arc_key}

-- cells filled up with 0, to the most that a table can have
unfoldable pub filled_up : List ℕ → List ℕ
filled_up cells = cells ++ replicate (most_cells - length cells) 0

-- the cells of the counts and of the items so far
unfoldable pub draft_cells : Counts → Table → List ℕ
draft_cells c t = count_cells c ++ (rows_cells t.classes ++ (t.initials ++ (t.terminals ++ arcs_cells t.arcs)))

-- the kind of a line, as code holds it
abbrev pub kind_said : CodedKind → LineKind
kind_said Coded.Class = class
kind_said Coded.Initial = initial
kind_said Coded.Terminal = terminal
kind_said Coded.Arc = arc
kind_said Coded.End = end

-- a line is taken as a class's where its first byte is a class's and no initial state has been read
abbrev pub taken_as_class : ℕ → ℕ → Bool
taken_as_class filled first = eqb filled initials_at && eqb first (code_of class)

-- the kind of the next line, by the counts, the cells so far and the first byte that it has
unfoldable pub kind_after : Counts → ℕ → ℕ → LineKind
kind_after c filled first =
    cond (taken_as_class filled first) class
    (cond (ltb filled (terminals_at c)) initial (cond (ltb filled (arcs_at c)) terminal (cond (ltb filled (extent c)) arc end)))

-- the number of a line that is of a first byte and one number, as the line of a state and the end line are; other lines are misplaced there
abbrev pub one_number : ℕ → List ℕ → Result ℕ InputCause
one_number code b = cond (has_form code (width_of initial) b) (Ok (number_at b 1)) (Err Misplaced)

-- the kinds of items
abbrev pub IsItem : LineKind → Type 0
IsItem class = Unit {0}
IsItem initial = Unit {0}
IsItem terminal = Unit {0}
IsItem arc = Unit {0}
IsItem end = ⊥

-- where the row of a class line stands
abbrev pub row_at : List ℕ → ℕ
row_at b = classes_at + row_width * class_from b

-- where a line of a kind puts its cells, where some were filled: behind them, but a class at its place
abbrev pub place_of : LineKind → List ℕ → ℕ → ℕ
place_of class b filled = row_at b
place_of initial b filled = filled
place_of terminal b filled = filled
place_of arc b filled = filled
place_of end b filled = filled

-- how many cells are filled then; the rows of the classes always are
abbrev pub filled_after : LineKind → List ℕ → ℕ → ℕ
filled_after class b filled = filled
filled_after initial b filled = filled + 1
filled_after terminal b filled = filled + 1
filled_after arc b filled = filled + arc_width
filled_after end b filled = filled

-- the cells that a line of a kind puts
abbrev pub item_cells : LineKind → List ℕ → List ℕ
item_cells class b = row_with (letters_from b)
item_cells initial b = number_at b 1 ∷ []
item_cells terminal b = number_at b 1 ∷ []
item_cells arc b = arc_cells (arc_from b)
item_cells end b = []

-- the key by which a line's item is seen to be new
abbrev pub item_key : LineKind → List ℕ → ℕ
item_key class b = 0
item_key initial b = state_key (number_at b 1)
item_key terminal b = 0
item_key arc b = arc_key (arc_from b)
item_key end b = 0

-- the cells hold the draft of a table whose items so far keep the rules, and 0 after it; each list is full before the next begins
pub record Tracks (c : Counts) (t : Table) (lines filled top : ℕ) (cells : List ℕ) : Type 0 where
  pub counts : counts_hold c ≡ true
  pub states-is : t.states ≡ c.states
  pub initials-most : length t.initials ≤ c.initials
  pub terminals-most : length t.terminals ≤ c.terminals
  pub arcs-most : length t.arcs ≤ c.arcs
  pub initials-full : 0 < length t.terminals + length t.arcs → length t.initials ≡ c.initials
  pub terminals-full : 0 < length t.arcs → length t.terminals ≡ c.terminals
  pub lines-is : lines ≡ lines_before t
  pub filled_is : filled ≡ length (draft_cells c t)
  pub cells_are : cells ≡ filled_up (draft_cells c t)
  pub classes_keep_lem : classes_keep t.classes ≡ true
  pub initials_keep_lem : initials_keep t.states t.initials ≡ true
  pub terminals_keep_lem : terminals_keep t.states t.terminals ≡ true
  pub arcs_keep_lem : arcs_keep t.states t.classes t.arcs ≡ true
  pub top-states : largest state_key t.initials ≤ top
  pub top-arcs : largest arc_key t.arcs ≤ top

-- some table is so tracked, and a line of this kind is due
pub record Drafted (lines filled top : ℕ) (cells : List ℕ) (kind : LineKind) : Type 0 where
  pub counts : Counts
  pub table : Table
  pub bytes : List ℕ
  pub tracks : Tracks counts table lines filled top cells
  pub kind-is : kind ≡ due counts table bytes

-- the arcs in the cells so far
abbrev pub arcs_held : List ℕ → ℕ → List Arc
arcs_held cells filled = arcs_as (take (filled - arcs_at (counts_in cells)) (drop (arcs_at (counts_in cells)) cells))

-- what the code of the rules asks of the arcs before one: their place, that they keep the rules, and that no key of theirs is above the top
pub record ArcsReady (cells : List ℕ) (filled top : ℕ) : Type 0 where
  pub from : arcs_at (counts_in cells) ≤ filled
  pub inside : filled ≤ length cells
  pub keep : arcs_keep (get_or cells 0 0) (classes_in cells) (arcs_held cells filled) ≡ true
  pub top-arcs : largest arc_key (arcs_held cells filled) ≤ top
