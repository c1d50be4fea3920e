-- What the calls on tables come to, by their contracts, stated together: `checked`, `read_answer` and `read_cells`, `write_answer` and `write_text` are
-- what the check, the reader and the writer answer and leave, for any text, cells and destination. How it is shown is in Calls.
use Prim.Native.Nat.{ℕ, ◌≤◌, ◌<◌}
use mathlib.Core.Path.{◌≡◌}
use mathlib.Core.Bool.{true}
use mathlib.Core.Logic.{◌↔◌}
use mathlib.Core.Option.{none, some}
use mathlib.Core.List.{List, ◌++◌}
use lib.ListN.{length, take, drop}
use Rattle.refusal.specs.declared.InputCause.{InputCause}
use Rattle.refusal.specs.declared.StateCause.TheVariants.{LoadedTable, DestinationShort}
use Rattle.refusal.specs.declared.Refusal.{Refusal}
use Rattle.refusal.specs.declared.Refusal.TheVariants.{Input, State}
use Rattle.std.specs.Prelude.{Ok, Err}
use Rattle.std.specs.Result.{IsOk}
use Rattle.table_format.specs.Table.{Table}
use Rattle.table_format.specs.Rules.{keeps_rules}
use Rattle.table_format.specs.Loaded.{cells_of, counts_in, extent, loaded}
use Rattle.table_format.specs.Text.{text_of}
use Rattle.table_format.specs.Parse.{accepted, turned_down, parsed}
use Rattle.table_check.specs.Check.{checked}
use Rattle.table.specs.Calls.{read_answer, read_cells, write_answer, write_text}
use Rattle.table_check.proofs.Passing as passing
use Rattle.table.proofs.Calls as calls

-- THE CHECK: "20. The loaded table breaks a rule above." It passes exactly the cells that hold a table that keeps the rules (`loads`,
-- table_format/proofs/Headlines).
pub check_is : (c : List ℕ) → IsOk (checked c) ↔ ((t : Table) × (loaded c ≡ some t))
check_is = passing.check_is

-- THE READER, on any text and destination.
module _ (x d : List ℕ) where
  -- done, exactly where the text is that of a table that keeps the rules and there is room for its cells, whose number is told
  pub read_is : (n : ℕ) → (read_answer x d ≡ Ok n) ↔ ((t : Table) × (keeps_rules t ≡ true) × (x ≡ text_of t) × (n ≡ length (cells_of t)) × (n ≤ length d))
  read_is = calls.read_is x d

  -- "A longer one is untouched beyond that."
  pub read-leaves : (t : Table) → keeps_rules t ≡ true → x ≡ text_of t → length (cells_of t) ≤ length d → read_cells x d ≡ cells_of t ++ drop (length (cells_of t)) d
  read-leaves = calls.read-leaves x d

  -- "24 comes last": a text's own refusals come first
  pub read-turned : (c : InputCause) → (read_answer x d ≡ Err (Input c)) ↔ (parsed x ≡ turned_down c)
  read-turned = calls.read-turned x d

  pub read_short : (read_answer x d ≡ Err (State DestinationShort)) ↔ ((t : Table) × (keeps_rules t ≡ true) × (x ≡ text_of t) × (length d < length (cells_of t)))
  read_short = calls.read_short x d

  -- "every lent buffer holds what it held before"
  pub read-refused : (r : Refusal) → read_answer x d ≡ Err r → read_cells x d ≡ d
  read-refused = calls.read-refused x d

-- THE WRITER, on any cells and destination: "Writer: 20, 24."
module _ (c d : List ℕ) where
  pub write_is : (n : ℕ) → (write_answer c d ≡ Ok n) ↔ ((t : Table) × (loaded c ≡ some t) × (n ≡ length (text_of t)) × (n ≤ length d))
  write_is = calls.write_is c d

  pub write_leaves : (t : Table) → loaded c ≡ some t → length (text_of t) ≤ length d → write_text c d ≡ text_of t ++ drop (length (text_of t)) d
  write_leaves t l room = (calls.write_fits c d t l room).1

  pub write_broken : (write_answer c d ≡ Err (State LoadedTable)) ↔ (loaded c ≡ none)
  write_broken = calls.write_broken c d

  pub write_short : (write_answer c d ≡ Err (State DestinationShort)) ↔ ((t : Table) × (loaded c ≡ some t) × (length d < length (text_of t)))
  write_short = calls.write_short c d

  pub write_refused : (r : Refusal) → write_answer c d ≡ Err r → write_text c d ≡ d
  write_refused = calls.write_refused c d

-- "TABLE AND TEXT DETERMINE EACH OTHER", of the calls one after the other.

-- a text that is read is written back from the cells that reading leaves
pub read-written : (x d e : List ℕ) (n : ℕ) → read_answer x d ≡ Ok n → length x ≤ length e
    → (write_answer (read_cells x d) e ≡ Ok (length x)) × (write_text (read_cells x d) e ≡ x ++ drop (length x) e)
read-written = calls.read-written

-- what writing leaves is a text of the table that the cells hold
pub written_read : (c e : List ℕ) (n : ℕ) (t : Table) → write_answer c e ≡ Ok n → loaded c ≡ some t → parsed (take n (write_text c e)) ≡ accepted t
written_read = calls.written_read

-- cells that are written are read back from the text that writing leaves
pub written-cells : (c e d : List ℕ) (n : ℕ) → write_answer c e ≡ Ok n → extent (counts_in c) ≤ length d
    → (read_answer (take n (write_text c e)) d ≡ Ok (extent (counts_in c)))
    × (read_cells (take n (write_text c e)) d ≡ take (extent (counts_in c)) c ++ drop (extent (counts_in c)) d)
written-cells = calls.written-cells
