-- What each public call answers, and what it leaves in the destination that it is lent.
use Rattle.std.specs.Prelude.{ℕ, List, Result, Err}
use Rattle.std.proofs.Math.Option.{Option, none, some}
use Rattle.refusal.specs.declared.StateCause.TheVariants.{LoadedTable}
use Rattle.refusal.specs.declared.Refusal.TheVariants.{Input, State}
use Rattle.refusal.specs.declared.Refusal.{Refusal}
use Rattle.destination.specs.Stored.{stored_answer, stored_cells}
use Rattle.table_format.specs.Table.{Table}
use Rattle.table_format.specs.Loaded.{cells_of, loaded}
use Rattle.table_format.specs.Text.{text_of}
use Rattle.table_format.specs.Parse.{Parsed, accepted, turned_down, parsed}

-- the reader: the text's refusals, then 24
abbrev pub read_as : Parsed → List ℕ → Result ℕ Refusal
read_as (accepted t) destination = stored_answer (cells_of t) destination
read_as (turned_down cause) destination = Err (Input cause)

abbrev pub read_cells_as : Parsed → List ℕ → List ℕ
read_cells_as (accepted t) destination = stored_cells (cells_of t) destination
read_cells_as (turned_down cause) destination = destination

unfoldable pub read_answer : List ℕ → List ℕ → Result ℕ Refusal
read_answer text destination = read_as (parsed text) destination

unfoldable pub read_cells : List ℕ → List ℕ → List ℕ
read_cells text destination = read_cells_as (parsed text) destination

-- the writer: 20, then 24
abbrev pub written_as : Option Table → List ℕ → Result ℕ Refusal
written_as none destination = Err (State LoadedTable)
written_as (some t) destination = stored_answer (text_of t) destination

abbrev pub written_text_as : Option Table → List ℕ → List ℕ
written_text_as none destination = destination
written_text_as (some t) destination = stored_cells (text_of t) destination

unfoldable pub write_answer : List ℕ → List ℕ → Result ℕ Refusal
write_answer cells destination = written_as (loaded cells) destination

unfoldable pub write_text : List ℕ → List ℕ → List ℕ
write_text cells destination = written_text_as (loaded cells) destination
