-- A loaded table: a list of cells that begins with the four counts, the eight rows of the classes, the initial states, the terminal states,
-- and five cells an arc (source, upper letter, lower letter, target, penalty). The list may be longer than the table.
use Rattle.std.specs.Prelude.{ℕ, zero, suc, ◌+◌, ◌*◌, cond, ◌&&◌, List, [], ◌∷◌, ◌++◌, leb, length, get_or, take, drop}
use Rattle.std.proofs.Math.Option.{Option, none, some}
use Rattle.table_format.specs.Table.{Arc, Table, Counts, counts_of}
use Rattle.table_format.specs.Classes.{class_count, row_width}
use Rattle.table_format.specs.Rules.{keeps_rules}

-- the cells of an arc
abbrev pub arc_width : ℕ
arc_width = 5

-- where the classes begin, after the counts
abbrev pub classes_at : ℕ
classes_at = 4

-- the cells of the classes
abbrev pub class_cells : ℕ
class_cells = class_count * row_width

-- where the initial states begin, after the classes
abbrev pub initials_at : ℕ
initials_at = classes_at + class_cells

-- the most cells of a table: 256 initial states, 256 terminal states, 1,024 arcs
abbrev pub most_cells : ℕ
most_cells = initials_at + 256 + 256 + arc_width * 1024

-- From a table to its cells.

abbrev pub count_cells : Counts → List ℕ
count_cells c = c.states ∷ c.initials ∷ c.terminals ∷ c.arcs ∷ []

abbrev pub arc_cells : Arc → List ℕ
arc_cells a = a.source ∷ a.upper ∷ a.lower ∷ a.target ∷ a.penalty ∷ []

unfoldable pub arcs_cells : List Arc → List ℕ
arcs_cells [] = []
arcs_cells (a ∷ rest) = arc_cells a ++ arcs_cells rest

-- rows one after another
unfoldable pub rows_cells : List (List ℕ) → List ℕ
rows_cells [] = []
rows_cells (row ∷ rows) = row ++ rows_cells rows

unfoldable pub cells_of : Table → List ℕ
cells_of t = count_cells (counts_of t) ++ (rows_cells t.classes ++ (t.initials ++ (t.terminals ++ arcs_cells t.arcs)))

-- From cells to the table that they begin with.

abbrev pub counts_in : List ℕ → Counts
counts_in cells = record { states = get_or cells 0 0; initials = get_or cells 1 0; terminals = get_or cells 2 0; arcs = get_or cells 3 0 }

abbrev pub arc_in : List ℕ → Arc
arc_in cells = record { source = get_or cells 0 0; upper = get_or cells 1 0; lower = get_or cells 2 0; target = get_or cells 3 0; penalty = get_or cells 4 0 }

unfoldable pub arcs_in : ℕ → List ℕ → List Arc
arcs_in zero cells = []
arcs_in (suc n) cells = arc_in cells ∷ arcs_in n (drop arc_width cells)

-- n rows
unfoldable pub rows_in : ℕ → List ℕ → List (List ℕ)
rows_in zero cells = []
rows_in (suc n) cells = take row_width cells ∷ rows_in n (drop row_width cells)

-- the classes of a loaded table
abbrev pub classes_in : List ℕ → List (List ℕ)
classes_in cells = rows_in class_count (drop classes_at cells)

-- where the terminal states and the arcs begin, and how many cells there are in all
abbrev pub terminals_at : Counts → ℕ
terminals_at c = initials_at + c.initials

abbrev pub arcs_at : Counts → ℕ
arcs_at c = initials_at + c.initials + c.terminals

abbrev pub extent : Counts → ℕ
extent c = initials_at + c.initials + c.terminals + arc_width * c.arcs

unfoldable pub table_in : List ℕ → Table
table_in cells =
    record {
      states = (counts_in cells).states;
      classes = classes_in cells;
      initials = take (counts_in cells).initials (drop initials_at cells);
      terminals = take (counts_in cells).terminals (drop (terminals_at (counts_in cells)) cells);
      arcs = arcs_in (counts_in cells).arcs (drop (arcs_at (counts_in cells)) cells);
    }

-- 20: the cells' table, where they hold it whole and it keeps the rules
unfoldable pub loaded : List ℕ → Option Table
loaded cells = cond (leb (extent (counts_in cells)) (length cells) && keeps_rules (table_in cells)) (some (table_in cells)) none
