-- What the code of a call answers and leaves, by what the machine tells.
use Rattle.std.specs.Prelude.{Option, Some, None, ℕ, ◌≡◌, Bool, true, false, List}
use Rattle.machine.specs.declared.Run.{Run}
use Rattle.machine.specs.declared.Answer.{Answer}
use Rattle.machine.specs.declared.Answer.TheVariants.{Paused, Ended}
use Rattle.machine.specs.declared.Called.{Called}
use Rattle.machine.specs.Call.{Replied}
use Rattle.machine.specs.Reading.{outcome_as}

-- an answer and a run
abbrev pub called_with : Answer → Run → Called
called_with answer run = record { answer = answer; run = run }

-- what is due after k steps, by whether the search is over and whether the allowance is spent
abbrev pub due_at : Bool → Bool → ℕ → Option Answer
due_at true spent k = Some (Ended k)
due_at false true k = Some (Paused k)
due_at false false k = None

-- the answer with the run, the cells e and the output o, where the run and the buffer were run and b
abbrev pub SearchIs : Run → List ℕ → Replied (List ℕ) → Called → List ℕ → List ℕ → Type 0
SearchIs run b told r e o = (r ≡ (outcome_as run b told).called) × (e ≡ (outcome_as run b told).stack) × (o ≡ (outcome_as run b told).output)
