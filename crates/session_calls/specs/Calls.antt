-- Calls until one is not Paused or none is left.
use Rattle.std.specs.Prelude.{ℕ, zero, suc, ◌≤◌, ◌≡◌, List, length, Result, Ok, Err}
use Rattle.refusal.specs.declared.Refusal.{Refusal}
use Rattle.machine.specs.declared.Run.{Run}
use Rattle.machine.specs.declared.Answer.{Answer}
use Rattle.machine.specs.declared.Answer.TheVariants.{Found, Paused, Ended, Refused}
use Rattle.machine.specs.Reading.{Outcome, outcome}
use Rattle.session_calls.specs.declared.CallResult.{CallResult}
use Rattle.session_calls.specs.declared.CallResult.TheVariants as C

-- "calls with allowance 1,000"
abbrev pub call_steps : ℕ
call_steps = 1000

-- "after 65,536 calls"
abbrev pub most_calls : ℕ
most_calls = 65536

-- what they come to, with the stack and the output buffer as they leave them
pub record CallsOutcome : Type 0 where
  pub result : Result CallResult Refusal
  pub stack : List ℕ
  pub output : List ℕ

-- a call's answer, with the calls left after it; k says how they go on
abbrev pub calls_outcome_by : Answer → Outcome → ℕ → (Run → List ℕ → List ℕ → CallsOutcome) → CallsOutcome
calls_outcome_by (Found steps n) o calls k = record { result = Ok (C.Reading n o.called.run calls); stack = o.stack; output = o.output }
calls_outcome_by (Paused steps) o calls k = k o.called.run o.stack o.output
calls_outcome_by (Ended steps) o calls k = record { result = Ok C.Ended; stack = o.stack; output = o.output }
calls_outcome_by (Refused steps r) o calls k = record { result = Err r; stack = o.stack; output = o.output }

unfoldable pub calls_outcome : (cells upper lower : List ℕ) → ℕ → Run → List ℕ → List ℕ → CallsOutcome
calls_outcome cells upper lower zero run stack output = record { result = Ok C.Spent; stack = stack; output = output }
calls_outcome cells upper lower (suc calls) run stack output =
    calls_outcome_by (outcome cells upper lower run stack call_steps output).called.answer (outcome cells upper lower run stack call_steps output) calls
    (λ r s o. calls_outcome cells upper lower calls r s o)

-- what calls come to, and the stack and the output buffer at exit
abbrev pub CallsOutcomeIs : CallsOutcome → Result CallResult Refusal → List ℕ → List ℕ → Type 0
CallsOutcomeIs x r s o = (r ≡ x.result) × (s ≡ x.stack) × (o ≡ x.output)

-- a reading's letters are in the output buffer
abbrev pub Fits : Result CallResult Refusal → List ℕ → Type 0
Fits (Ok (C.Reading n run calls)) output = n ≤ length output
Fits (Ok C.Ended) output = Unit {0}
Fits (Err r) output = Unit {0}
Fits (Ok C.Spent) output = Unit {0}
