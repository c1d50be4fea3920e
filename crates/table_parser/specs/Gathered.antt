-- What the reader makes of a text: its table's cells, or the refusal.
use Rattle.std.specs.Prelude.{cond, List, ℕ, ◌≡◌, length, replicate, Result, Ok, Err}
use Rattle.refusal.specs.declared.InputCause.{InputCause}
use Rattle.refusal.specs.declared.InputCause.TheVariants.{Malformed, Misplaced}
use Rattle.table_format.specs.Table.{Counts}
use Rattle.table_format.specs.Loaded.{most_cells, cells_of}
use Rattle.table_format.specs.Line.{Line, lines_of, malformed}
use Rattle.table_format.specs.Parse.{Parsed, accepted, turned_down, within, empty_table, parse_from}
use Rattle.table_items.specs.Draft.{filled_up}
use Rattle.table_parser.specs.declared.Gathered.{Gathered}

-- what the reader makes of a text: every cell of one that it refuses is 0
abbrev pub gathered : Parsed → Gathered
gathered (accepted t) = record { read = Ok (length (cells_of t)); cells = filled_up (cells_of t) }
gathered (turned_down cause) = record { read = Err cause; cells = replicate most_cells 0 }

-- the same of cells that are lent: a refusal says nothing of them
abbrev pub ReadInto : Parsed → Result ℕ InputCause → List ℕ → Type 0
ReadInto (accepted t) read cells = (read ≡ Ok (length (cells_of t))) × (cells ≡ filled_up (cells_of t))
ReadInto (turned_down cause) read cells = read ≡ Err cause

-- the parse of the lines after a header line with these counts
abbrev pub items_parsed : Counts → List ℕ → Parsed
items_parsed c text = parse_from (within c (empty_table c.states)) (lines_of text)

-- what a line after the end line earns: 1, or 2, since "text stands after the end"
abbrev pub after_end : Line → InputCause
after_end l = cond (malformed l) Malformed Misplaced
