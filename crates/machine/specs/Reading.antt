-- The call for a reading: 20, 11, 10, 39, 21, then steps. It gives the answer and the run, every cell of the lent stack and every cell of the
-- output buffer.
--
--   Reply, Replied    what the machine tells of a call: found with its output, paused, ended or refused; with the steps and the run after it
--   Answer, Called    what the code gives: the answer by its cases; with the run
--   Outcome           all that a call comes to: Called, the stack and the output buffer
--   Told              an answer in document 01's numbers
use Rattle.std.specs.Prelude.{ℕ, ◌≡◌, ◌⊎◌, List, ◌++◌, length, drop}
use Rattle.refusal.specs.declared.Refusal.{Refusal}
use Rattle.refusal.specs.declared.Refusal.TheVariants.{State}
use Rattle.refusal.specs.declared.StateCause.TheVariants.{Place}
use Rattle.refusal.specs.Told.{Told}
use Rattle.table_format.specs.Table.{Table}
use Rattle.machine.specs.declared.Run.{Run}
use Rattle.machine.specs.declared.Answer.{Answer}
use Rattle.machine.specs.declared.Answer.TheVariants.{Found, Paused, Ended, Refused}
use Rattle.machine.specs.declared.Called.{Called}
use Rattle.machine.specs.Query.{Query}
use Rattle.machine.specs.Machine.{Machine}
use Rattle.machine.specs.Frames.{Frame, Store, Held}
use Rattle.machine.specs.Step.{refuses, step}
use Rattle.machine.specs.Place.{InSearch}
use Rattle.machine.specs.Call.{Reply, found, paused, ended, refused, Replied, still, call, Steps, Stops}
use Rattle.machine.specs.Transducer.{machine}
use Rattle.machine.specs.Stack.{store}
use Rattle.machine.specs.Answer.{told}
use Rattle.machine.specs.Asked.{Asked, turned, runs, asked}

-- what a call gives back, and the lent cells at exit
pub record Outcome : Type 0 where
  pub called : Called
  pub stack : List ℕ
  pub output : List ℕ

-- its answer in this paper's numbers
abbrev pub told_by : Outcome → Told
told_by o = told o.called.answer

-- a run with the stack that is lent to it
abbrev pub held_of : Run → List ℕ → Held (List ℕ)
held_of r stack = record { started = r.started; depth = r.depth; cells = stack }

-- "Its answer carries the number of steps made in this call"
abbrev pub answer_as : Reply → ℕ → Answer
answer_as (found o) steps = Found steps (length o)
answer_as paused steps = Paused steps
answer_as ended steps = Ended steps
answer_as (refused r) steps = Refused steps r

-- "output written from the front of the lent buffer, the rest untouched"; "only Found writes output"
abbrev pub output_as : Reply → List ℕ → List ℕ
output_as (found o) buffer = o ++ drop (length o) buffer
output_as paused buffer = buffer
output_as ended buffer = buffer
output_as (refused r) buffer = buffer

-- a run moved on: its task and its ceiling stay
abbrev pub moved_to : Run → ℕ → ℕ → Run
moved_to run started depth = record { task = run.task; started = started; depth = depth; ceiling = run.ceiling }

-- a call that was begun
abbrev pub outcome_as : Run → List ℕ → Replied (List ℕ) → Outcome
outcome_as run buffer r =
    record {
      called = record { answer = answer_as r.reply r.steps; run = moved_to run r.after.started r.after.depth };
      stack = r.after.cells;
      output = output_as r.reply buffer;
    }

-- 20, 11, 10 and 39 come before 21 and the steps, and leave all as it was
abbrev pub outcome_of : Asked → Run → List ℕ → ℕ → List ℕ → Outcome
outcome_of (turned r) run stack allowance buffer = record { called = record { answer = Refused 0 r; run = run }; stack = stack; output = buffer }
outcome_of (runs t q) run stack allowance buffer = outcome_as run buffer (call (machine t q) store allowance (length buffer) (held_of run stack))

-- a loaded table's cells, the words, the run, the stack, the allowance and the output buffer
unfoldable pub outcome : List ℕ → List ℕ → List ℕ → Run → List ℕ → ℕ → List ℕ → Outcome
outcome cells upper lower run stack allowance buffer = outcome_of (asked cells run.task upper lower run.ceiling) run stack allowance buffer

-- what a call ensures, of an outcome x: the answer in this paper's numbers, the run, and every cell of the stack and of the output at exit.
-- It tells the answer itself (`outcome-called`).
pub record OutcomeIs (x : Outcome) (answer : Told) (run : Run) (stack output : List ℕ) : Type 0 where
  pub answer-is : answer ≡ told_by x
  pub run_is : run ≡ x.called.run
  pub stack_is : stack ≡ x.stack
  pub output-is : output ≡ x.output

-- The same as a relation, from the step rule and without the loop: a call on a run, where 20, 11, 10 and 39 are not given. It has one solution,
-- the outcome (`call-is`).
pub data CallBy (t : Table) (q : Query) (run : Run) (stack : List ℕ) (allowance : ℕ) (buffer : List ℕ) : Outcome → Type 0 where
  -- 21, with all as it was, exactly where "The run or its used frames are not a place in a search"
  no_place : (InSearch t q run stack → ⊥) → CallBy t q run stack allowance buffer (outcome_as run buffer (still (refused (State Place)) (held_of run stack)))
  -- else its steps, as they stop
  goes_on : {c : Replied (List ℕ)} → InSearch t q run stack → Stops (machine t q) store (length buffer) allowance (held_of run stack) c → CallBy t q run stack allowance buffer (outcome_as run buffer c)

-- "Steps before a refused one stand"; "every lent buffer holds what it held before the refused step, or before the call where no step was
-- begun". What a refused call leaves:

-- no step was begun: the number is told after 0 steps, and all is as it was
abbrev pub Unchanged : Refusal → Run → List ℕ → Outcome → Type 0
Unchanged c run stack o = (o.called.answer ≡ Refused 0 c) × (o.called.run ≡ run) × (o.stack ≡ stack)

-- the steps told lead to the run and the stack that it leaves, and the step from there is the refused one
pub record BeforeStep (M : Machine) (S : Store (Frame M.D)) (l : ℕ) (h d : Held S.Cells) (a : Answer) : Type 0 where
  pub refusal : Refusal
  pub is-refused : a ≡ Refused (told a).steps refusal
  pub steps-made : Steps M S l (told a).steps h d
  pub refused-there : step M S l d ≡ refuses refusal

-- what a call that is refused leaves, by what was asked: 20, 11, 10 or 39; else 21, where it is no place in a search, or what a step is refused
-- with, where it is one. It has one solution (`refused-leaves-one`).
abbrev pub RefusedLeaves : Asked → Run → List ℕ → List ℕ → Outcome → Type 0
RefusedLeaves (turned c) run stack buffer o = (o.output ≡ buffer) × Unchanged c run stack o
RefusedLeaves (runs t q) run stack buffer o =
    (o.output ≡ buffer)
    × (o.called.run.task ≡ run.task)
    × (o.called.run.ceiling ≡ run.ceiling)
    × (((InSearch t q run stack → ⊥) × Unchanged (State Place) run stack o) ⊎ (InSearch t q run stack × BeforeStep (machine t q) store (length buffer) (held_of run stack) (held_of o.called.run o.stack) o.called.answer))
