-- What the opening tells, and leaves in the cells for the table and the bytes for the query. Where it is refused both are as they were; else
-- the table is written from the front and is untouched beyond that, and the bytes are the query's, then zeros.
use Rattle.std.specs.Prelude.{ℕ, ◌≡◌, List, ◌++◌, length, drop, Result, Ok, Err}
use Rattle.std.proofs.Math.Option.{Option, none, some}
use Rattle.refusal.specs.declared.Refusal.{Refusal}
use Rattle.refusal.specs.Told.{Told, done_kind, answered}
use Rattle.refusal.specs.Told as T
use Rattle.machine.specs.declared.Run.{Run}
use Rattle.session_query.specs.Query.{filled}
use Rattle.session_calls.specs.Calls.{most_calls}
use Rattle.session_opening.specs.declared.SessionState.{SessionState}
use Rattle.session_opening.specs.Opened.{Opened, unopened, ready}

-- "this paper's number and values for each of its cases": done, with the state to begin with, or a refusal's number
pub record OpeningTold : Type 0 where
  pub answer : Told
  pub state : Option SessionState

abbrev pub opening_told : Result SessionState Refusal → OpeningTold
opening_told (Ok state) = record { answer = answered done_kind 0 0; state = some state }
opening_told (Err r) = record { answer = T.refused_told r 0 0; state = none }

pub record OpeningOutcome : Type 0 where
  pub told : OpeningTold
  pub table : List ℕ
  pub query : List ℕ

-- no reading yet, and every call left
abbrev pub first_state : Run → SessionState
first_state run = record { run = run; count = 0; calls = most_calls }

abbrev pub opening_outcome : Opened → List ℕ → List ℕ → OpeningOutcome
opening_outcome (unopened r) table query = record { told = opening_told (Err r); table = table; query = query }
opening_outcome (ready cells b run) table query = record { told = opening_told (Ok (first_state run)); table = cells ++ drop (length cells) table; query = filled b }

-- what is told, and the lent cells and bytes at exit
abbrev pub OpeningOutcomeIs : OpeningOutcome → OpeningTold → List ℕ → List ℕ → Type 0
OpeningOutcomeIs x r t q = (r ≡ x.told) × (t ≡ x.table) × (q ≡ x.query)
