-- Document 01, "Lines of the text": "Too long an input is refused before any line is read, then the table's faults come before the query's".
-- Then the start's refusals: 11, 10, 12; never 39.
use Rattle.std.specs.Prelude.{ℕ, cond, List, ltb, length}
use Rattle.refusal.specs.declared.InputCause.TheVariants.{CountLimit}
use Rattle.refusal.specs.declared.Refusal.{Refusal}
use Rattle.refusal.specs.declared.Refusal.TheVariants.{Input}
use Rattle.table_format.specs.Loaded.{cells_of}
use Rattle.table_format.specs.Line.{Line, lines_of}
use Rattle.table_format.specs.Parse.{Parsed, accepted, turned_down, parsed}
use Rattle.machine.specs.declared.Run.{Run}
use Rattle.machine.specs.declared.StartAnswer.{StartAnswer}
use Rattle.machine.specs.declared.StartAnswer.TheVariants.{Ready, Refused}
use Rattle.machine.specs.declared.Started.{Started}
use Rattle.machine.specs.Start.{started}
use Rattle.session_query.specs.Parts.{table_text, query_text}
use Rattle.session_query.specs.Query.{QueryRead, fault, says, task_in, upper_in, lower_in, query_of}

-- a refusal; or the table's cells, the query's bytes and the run that the start leaves
pub data Opened : Type 0 where
  unopened : Refusal → Opened
  ready : (cells bytes : List ℕ) → Run → Opened

-- the start's answer; a session does not show the states of the cycle that 12 tells
abbrev pub opened_as : List ℕ → List ℕ → StartAnswer → Run → Opened
opened_as cells b Ready run = ready cells b run
opened_as cells b (Refused r) run = unopened r

-- "a run has a ceiling fixed at its start (100,000 in the session ..)"
abbrev pub session_ceiling : ℕ
session_ceiling = 100000

-- what the start by a query's bytes gives
abbrev pub start_of : List ℕ → List ℕ → Started
start_of cells b = started cells (task_in b) (upper_in b) (lower_in b) session_ceiling

-- the start
unfoldable pub started_on : List ℕ → List ℕ → Opened
started_on cells b = opened_as cells b (start_of cells b).answer (start_of cells b).run

-- the query's faults
abbrev pub opened_query : List ℕ → QueryRead → Opened
opened_query cells (fault cause) = unopened (Input cause)
opened_query cells (says b) = started_on cells b

-- the table's faults
abbrev pub opened_table : Parsed → List Line → Opened
opened_table (turned_down cause) ls = unopened (Input cause)
opened_table (accepted t) ls = opened_query (cells_of t) (query_of ls)

-- 3: "a session's input exceeds 65,536 bytes"
abbrev pub most_input : ℕ
most_input = 65536

unfoldable pub opened : List ℕ → Opened
opened input = cond (ltb most_input (length input)) (unopened (Input CountLimit)) (opened_table (parsed (table_text input)) (lines_of (query_text input)))
