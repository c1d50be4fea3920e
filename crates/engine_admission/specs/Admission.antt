-- The sides that a task's number reads, and what is answered by what is asked: that a search may run, or the first of the refusals 20, 11, 10
-- and 39.
use Rattle.std.specs.Prelude.{ℕ, Bool, false, ◌&&◌, ◌||◌, leb, List, Result, Ok, Err}
use Rattle.std.proofs.Math.Option.{Option, none, some}
use Rattle.table_format.specs.Rules.{is_empty}
use Rattle.refusal.specs.declared.Refusal.{Refusal}
use Rattle.refusal.specs.declared.Refusal.TheVariants.{Input}
use Rattle.refusal.specs.declared.InputCause.{InputCause}
use Rattle.machine.specs.Query as Q
use Rattle.machine.specs.Query.{Task, task_of, upper_side, lower_side, reads}
use Rattle.machine.specs.Asked.{Asked, turned, runs}
use Rattle.engine_admission.specs.declared.Side.{Side}
use Rattle.engine_admission.specs.declared.Side.TheVariants.{Upper, Lower}

-- the code's side
abbrev pub side_of : Side → Q.Side
side_of Upper = upper_side
side_of Lower = lower_side

-- the sides that a task reads, if there is one
abbrev pub task_reads : Option Task → Q.Side → Bool
task_reads none s = false
task_reads (some k) s = reads k s

-- the same by the task's number; a number that is no task's reads none
unfoldable pub reads_at : ℕ → Q.Side → Bool
reads_at n s = task_reads (task_of n) s

-- 11: the number is a task's, and the word of a side that it does not read is empty
abbrev pub task_holds : ℕ → List ℕ → List ℕ → Bool
task_holds n upper lower = (leb 1 n && leb n 3) && ((reads_at n upper_side || is_empty upper) && (reads_at n lower_side || is_empty lower))

abbrev pub admission_of : Asked → Result (Unit {0}) Refusal
admission_of (turned r) = Err r
admission_of (runs t q) = Ok tt

-- what turns an input down, as a refusal
abbrev pub as_refusal : Result (Unit {0}) InputCause → Result (Unit {0}) Refusal
as_refusal (Ok u) = Ok u
as_refusal (Err c) = Err (Input c)
