-- The start: 20, 11, 10, 39, 12. "A start that passes sets the task, 0 started and depth 0, and touches no frame." A start that is refused
-- gives a run of zeros; the cycle's cells are 0 where no state is told.
use Rattle.std.specs.Prelude.{ℕ, ◌-◌, ◌≡◌, Bool, cond, List, [], ◌++◌, length, replicate}
use Rattle.refusal.specs.declared.Refusal.TheVariants.{Input}
use Rattle.refusal.specs.declared.InputCause.TheVariants.{IdleCycle}
use Rattle.refusal.specs.Told.{Told}
use Rattle.table_format.specs.Table.{Table}
use Rattle.machine.specs.declared.Run.{Run}
use Rattle.machine.specs.declared.StartAnswer.{StartAnswer}
use Rattle.machine.specs.declared.StartAnswer.TheVariants.{Ready, Refused}
use Rattle.machine.specs.declared.Started.{Started}
use Rattle.machine.specs.Answer.{start_told}
use Rattle.machine.specs.Query.{Query}
use Rattle.machine.specs.Idle.{has_idle_cycle, shown_idle}
use Rattle.machine.specs.Asked.{Asked, turned, runs, asked}

-- "sets the task, 0 started and depth 0"; "a run has a ceiling fixed at its start"
abbrev pub first_run : ℕ → ℕ → Run
first_run task ceiling = record { task = task; started = 0; depth = 0; ceiling = ceiling }

-- the run of a start that is refused
abbrev pub no_run : Run
no_run = first_run 0 0

-- the states of a cycle in 256 cells
abbrev pub in_cells : List ℕ → List ℕ
in_cells cycle = cycle ++ replicate (256 - length cycle) 0

-- an answer and a run, with the states of a cycle in their cells and their count
abbrev pub started_with : StartAnswer → Run → List ℕ → Started
started_with answer run cycle = record { answer = answer; run = run; cycle = in_cells cycle; length = length cycle }

-- a start that is asked for a table and a query, by whether an idle cycle is reached; 12 tells the cycle that is to be shown
abbrev pub by_test : Table → Query → Run → Bool → Started
by_test t q run b = cond b (started_with (Refused (Input IdleCycle)) no_run (shown_idle t q.task)) (started_with Ready run [])

-- any start
abbrev pub started_as : Asked → Run → Started
started_as (turned r) run = started_with (Refused r) no_run []
started_as (runs t q) run = by_test t q run (has_idle_cycle t q.task)

-- a start on a loaded table's cells, the task's number, the words and the ceiling
unfoldable pub started : List ℕ → ℕ → List ℕ → List ℕ → ℕ → Started
started cells task upper lower ceiling = started_as (asked cells task upper lower ceiling) (first_run task ceiling)

-- what a start tells in this paper's numbers
abbrev pub start_told_by : Started → Told
start_told_by s = start_told s.answer s.length

-- what a start ensures of its result s, where x is the definition's: it tells what x tells in this paper's numbers, and gives the same run, the
-- same cells of the cycle and their count. It is x then (`start_is`): nothing is left open.
abbrev pub StartedIs : Started → Started → Type 0
StartedIs x s = (start_told_by s ≡ start_told_by x) × (s.run ≡ x.run) × (s.cycle ≡ x.cycle) × (s.length ≡ x.length)
