-- A reading that calls found has its letters in the output buffer.
use Prim.Native.Nat.{ℕ, zero, suc, ◌≤◌}
use native.Mathlib.Omega.{arith}
use mathlib.Core.Path.{◌≡◌, refl, sym, subst, subst₂}
use mathlib.Core.List.{List}
use lib.ListN.{length, drop, length-append}
use Rattle.std.specs.Prelude.{Result, Ok}
use Rattle.refusal.specs.declared.Refusal.{Refusal}
use Rattle.machine.specs.declared.Run.{Run}
use Rattle.machine.specs.declared.Answer.{Answer}
use Rattle.machine.specs.declared.Answer.TheVariants.{Found, Paused, Ended, Refused}
use Rattle.machine.specs.Call.{Reply, call}
use Rattle.machine.specs.Call as R
use Rattle.machine.specs.Asked.{Asked, turned, runs, asked}
use Rattle.machine.specs.Transducer.{machine}
use Rattle.machine.specs.Stack.{store}
use Rattle.machine.specs.Reading.{held_of, answer_as, output_as, outcome_of, Outcome, outcome}
use Rattle.session_calls.specs.declared.CallResult.{CallResult}
use Rattle.session_calls.specs.declared.CallResult.TheVariants as C
use Rattle.session_calls.specs.Calls.{call_steps, calls_outcome_by, calls_outcome, Fits}

reply-inside : (a : Reply) (k steps n : ℕ) (buffer : List ℕ) → answer_as a k ≡ Found steps n → n ≤ length (output_as a buffer)
reply-inside (R.found o) k steps n buffer e = let q : length o ≡ n = cc in omega (arith, length-append o (drop (length o) buffer))
reply-inside R.paused k steps n buffer e = absurd (let z : ◌≡◌ {A = ℕ} 0 1 = cc in omega arith)
reply-inside R.ended k steps n buffer e = absurd (let z : ◌≡◌ {A = ℕ} 0 1 = cc in omega arith)
reply-inside (R.refused r) k steps n buffer e = absurd (let z : ◌≡◌ {A = ℕ} 0 1 = cc in omega arith)

module _ (cells upper lower : List ℕ) where
  found_inside : (run : Run) (stack : List ℕ) (allowance : ℕ) (buffer : List ℕ) (steps n : ℕ) → (outcome cells upper lower run stack allowance buffer).called.answer ≡ Found steps n
      → n ≤ length (outcome cells upper lower run stack allowance buffer).output
  unfolding outcome
  found_inside run stack allowance buffer steps n e = go (asked cells run.task upper lower run.ceiling) e
    where
      go : (w : Asked) → (outcome_of w run stack allowance buffer).called.answer ≡ Found steps n → n ≤ length (outcome_of w run stack allowance buffer).output
      go (turned r) e = absurd (let z : ◌≡◌ {A = ℕ} 0 1 = cc in omega arith)
      go (runs t q) e =
          let told = call (machine t q) store allowance (length buffer) (held_of run stack) in
          reply-inside told.reply told.steps steps n buffer e

  calls_fit : (calls : ℕ) (run : Run) (stack output : List ℕ) → Fits (calls_outcome cells upper lower calls run stack output).result (calls_outcome cells upper lower calls run stack output).output
  unfolding calls_outcome
  calls_fit zero run stack output = tt
  calls_fit (suc calls) run stack output = go o.called.answer refl (λ r s b. calls_fit calls r s b)
    where
      o : Outcome
      o = outcome cells upper lower run stack call_steps output

      go : (a : Answer) → (outcome cells upper lower run stack call_steps output).called.answer ≡ a
          → ((r : Run) (s b : List ℕ) → Fits (calls_outcome cells upper lower calls r s b).result (calls_outcome cells upper lower calls r s b).output)
          → Fits (calls_outcome_by a o calls (λ r s b. calls_outcome cells upper lower calls r s b)).result (calls_outcome_by a o calls (λ r s b. calls_outcome cells upper lower calls r s b)).output
      go (Found steps n) e k = found_inside run stack call_steps output steps n e
      go (Paused steps) e k = k o.called.run o.stack o.output
      go (Ended steps) e k = tt
      go (Refused steps r) e k = tt

  pub result_fits : (calls : ℕ) (run : Run) (stack output : List ℕ) (result : Result CallResult Refusal) (o : List ℕ) → result ≡ (calls_outcome cells upper lower calls run stack output).result
      → o ≡ (calls_outcome cells upper lower calls run stack output).output → Fits result o
  result_fits calls run stack output result o p q = subst₂ Fits (sym p) (sym q) (calls_fit calls run stack output)

pub fits-reading : (output : List ℕ) {result : Result CallResult Refusal} {n : ℕ} {run : Run} {calls : ℕ} → result ≡ Ok (C.Reading n run calls) → Fits result output → n ≤ length output
fits-reading output e f = subst (λ (x : Result CallResult Refusal). Fits x output) e f
