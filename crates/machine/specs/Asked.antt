-- Refusals 20, 11, 10 and 39, in the order in which a start and a call look for them; where there is none, the table and the query.
use Rattle.std.specs.Prelude.{ℕ, cond, List}
use Rattle.std.proofs.Math.Option.{Option, none, some}
use Rattle.refusal.specs.declared.Refusal.{Refusal}
use Rattle.refusal.specs.declared.Refusal.TheVariants.{Input, State}
use Rattle.refusal.specs.declared.InputCause.TheVariants.{WordFault, TaskFault, CeilingLimit}
use Rattle.refusal.specs.declared.StateCause.TheVariants.{LoadedTable}
use Rattle.table_format.specs.Table.{Table}
use Rattle.table_format.specs.Loaded.{loaded}
use Rattle.machine.specs.Query.{Task, task_of, Query, words_hold, sides_hold, ceiling_holds}

-- a refusal, or what is to be run
pub data Asked : Type 0 where
  turned : Refusal → Asked
  runs : Table → Query → Asked

-- 39, "after 10"
abbrev pub asked_ceiling : Table → Query → Asked
asked_ceiling t q = cond (ceiling_holds q) (runs t q) (turned (Input CeilingLimit))

-- 11, a word on a side that the task does not read, then 10
abbrev pub asked_words : Table → Query → Asked
asked_words t q = cond (sides_hold q) (cond (words_hold q) (asked_ceiling t q) (turned (Input WordFault))) (turned (Input TaskFault))

-- 11, an unknown task
abbrev pub asked_task : Table → Option Task → List ℕ → List ℕ → ℕ → Asked
asked_task t none upper lower ceiling = turned (Input TaskFault)
asked_task t (some k) upper lower ceiling = asked_words t (record { task = k; upper_word = upper; lower_word = lower; ceiling = ceiling })

-- 20
abbrev pub asked_table : Option Table → ℕ → List ℕ → List ℕ → ℕ → Asked
asked_table none task upper lower ceiling = turned (State LoadedTable)
asked_table (some t) task upper lower ceiling = asked_task t (task_of task) upper lower ceiling

-- the cells of a loaded table, the task's number, the words and the ceiling
unfoldable pub asked : List ℕ → ℕ → List ℕ → List ℕ → ℕ → Asked
asked cells task upper lower ceiling = asked_table (loaded cells) task upper lower ceiling
