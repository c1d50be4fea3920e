-- The key of a word over a loaded table: the readings that calls in synthesis give, one after another, and whether they came to the end, within the
-- session's limits: 1,000 readings, 65,536 calls of 1,000 steps, a ceiling of 100,000.
use Rattle.std.specs.Prelude.{ℕ, zero, suc, ◌*◌, Bool, true, false, Result, Ok, Err, List, [], ◌∷◌, take, replicate}
use Rattle.refusal.specs.declared.Refusal.{Refusal}
use Rattle.machine.specs.declared.Run.{Run}
use Rattle.machine.specs.declared.StartAnswer.{StartAnswer}
use Rattle.machine.specs.declared.StartAnswer.TheVariants as S
use Rattle.machine.specs.declared.Started.{Started}
use Rattle.machine.specs.Query.{most_ceiling}
use Rattle.machine.specs.Stack.{frame_width}
use Rattle.machine.specs.Start.{started}
use Rattle.faces.specs.Lent.{most_readings}
use Rattle.session_calls.specs.declared.CallResult.{CallResult}
use Rattle.session_calls.specs.declared.CallResult.TheVariants as C
use Rattle.session_calls.specs.Calls.{most_calls, CallsOutcome, calls_outcome}

-- readings and whether the run ended, or the refusal of a start or a call
pub data Key : Type 0 where
  key : List (List ℕ) → Bool → Key
  refused : Refusal → Key

-- a reading before those of a key
abbrev pub onto : List ℕ → Key → Key
onto r (key rs ended) = key (r ∷ rs) ended
onto r (refused c) = refused c

-- what calls up to a reading come to; k goes on after it, by the calls that are left, the run, the stack and the output
abbrev pub key_by : Result CallResult Refusal → CallsOutcome → (ℕ → Run → List ℕ → List ℕ → Key) → Key
key_by (Ok (C.Reading n run calls)) o k = onto (take n o.output) (k calls run o.stack o.output)
key_by (Ok C.Ended) o k = key [] true
key_by (Err r) o k = refused r
key_by (Ok C.Spent) o k = key [] false

-- the key that is left, by the readings and the calls that are
unfoldable pub key_from : (cells word : List ℕ) → ℕ → ℕ → Run → List ℕ → List ℕ → Key
key_from cells word zero calls run stack output = key [] false
key_from cells word (suc n) calls run stack output =
    key_by (calls_outcome cells word [] calls run stack output).result (calls_outcome cells word [] calls run stack output)
    (λ c r s o. key_from cells word n c r s o)

-- frames that are never too short for a word: (64 letters + 1) × 256 states
abbrev pub stack_frames : ℕ
stack_frames = 16640

-- and letters that are enough for each way to cut it: 64, and 63 cuts
abbrev pub output_letters : ℕ
output_letters = 127

-- the stack and the output that the first call is lent, all 0
abbrev pub first_stack : List ℕ
first_stack = replicate (stack_frames * frame_width) 0

abbrev pub first_output : List ℕ
first_output = replicate output_letters 0

abbrev pub key_started : (cells word : List ℕ) → StartAnswer → Run → Key
key_started cells word S.Ready run = key_from cells word most_readings most_calls run first_stack first_output
key_started cells word (S.Refused r) run = refused r

-- the task's number
abbrev pub synthesis_task : ℕ
synthesis_task = 2

-- the start, under the session's ceiling
abbrev pub start_of : (cells word : List ℕ) → Started
start_of cells word = started cells synthesis_task word [] most_ceiling

unfoldable pub key_of : (cells word : List ℕ) → Key
key_of cells word = key_started cells word (start_of cells word).answer (start_of cells word).run
