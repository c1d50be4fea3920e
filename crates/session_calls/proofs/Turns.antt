-- Calls for a reading one after the other: a turn of the loop, by the answer.
use Prim.Native.Nat.{ℕ, zero, suc, ◌-◌, ◌≤◌, ◌<◌}
use native.Mathlib.Omega.{arith}
use mathlib.Core.Path.{◌≡◌, refl, sym, ap, ap₂, ◌∙◌}
use mathlib.Core.List.{List}
use lib.ListN.{length}
use Rattle.std.specs.Prelude.{Ok, Err}
use Rattle.refusal.specs.declared.Refusal.{Refusal}
use Rattle.machine.specs.declared.Run.{Run}
use Rattle.machine.specs.declared.Answer.{Answer}
use Rattle.machine.specs.declared.Answer.TheVariants.{Found, Paused, Ended, Refused}
use Rattle.machine.specs.declared.Called.{Called}
use Rattle.machine.specs.Answer.{told}
use Rattle.machine.specs.Reading.{Outcome, outcome, OutcomeIs}
use Rattle.machine.proofs.Reading.{outcome-called}
use Rattle.session_calls.specs.declared.CallResult.TheVariants as C
use Rattle.session_calls.specs.Calls.{call_steps, CallsOutcome, calls_outcome_by, calls_outcome, CallsOutcomeIs}

-- what is known at the head of the loop: the calls left come to what all of them come to
pub record CallsLeft (cells upper lower : List ℕ) (h : CallsOutcome) (stack₀ output₀ : List ℕ) (left : ℕ) (run : Run) (stack output : List ℕ) : Type 0 where
  pub is : calls_outcome cells upper lower left run stack output ≡ h
  pub same-stack : length stack ≡ length stack₀
  pub same-output : length output ≡ length output₀

parts : {h : CallsOutcome} (x : CallsOutcome) → x ≡ h → CallsOutcomeIs h x.result x.stack x.output
parts x e = (ap (λ (y : CallsOutcome). y.result) e, ap (λ (y : CallsOutcome). y.stack) e, ap (λ (y : CallsOutcome). y.output) e)

-- what a call promises, as equations
pub made_of : {x : Outcome} (called : Called) {s o : List ℕ} → OutcomeIs x (told called.answer) called.run s o → (called ≡ x.called) × (s ≡ x.stack) × (o ≡ x.output)
made_of called I = (outcome-called {c = called} I, I.stack_is, I.output-is)

module _ {cells upper lower : List ℕ} {h : CallsOutcome} {stack₀ output₀ : List ℕ} {left : ℕ} {run : Run} {stack output : List ℕ}
    (L : CallsLeft cells upper lower h stack₀ output₀ left run stack output) where
  pub none_left : left ≤ 0 → CallsOutcomeIs h (Ok C.Spent) stack output
  unfolding calls_outcome
  none_left z = go left refl L.is
    where
      go : (n : ℕ) → left ≡ n → calls_outcome cells upper lower n run stack output ≡ h → CallsOutcomeIs h (Ok C.Spent) stack output
      go zero q e = parts _ e
      go (suc n) q e = absurd (omega arith)

  abbrev O : Outcome
  O = outcome cells upper lower run stack call_steps output

  -- one call, whose answer the code has in hand
  module _ {called : Called} {s o : List ℕ} (some_left : 0 < left) (made : (called ≡ O.called) × (s ≡ O.stack) × (o ≡ O.output)) where
    after : Outcome
    after = record { called = called; stack = s; output = o }

    turn : (a : Answer) → called.answer ≡ a → calls_outcome_by a after (left - 1) (λ r s o. calls_outcome cells upper lower (left - 1) r s o) ≡ h
    unfolding calls_outcome after
    turn a e = go left refl
      where
        go : (n : ℕ) → left ≡ n → calls_outcome_by a after (left - 1) (λ r s o. calls_outcome cells upper lower (left - 1) r s o) ≡ h
        go zero z = absurd (omega arith)
        go (suc n) z =
            let less : left - 1 ≡ n = omega arith in
            let same : after ≡ O = λ i. record { called = made.0 i; stack = made.1 i; output = made.2 i } in
            let is : a ≡ O.called.answer = sym e ∙ ap (λ (x : Called). x.answer) made.0 in
            ap (λ (k : ℕ). calls_outcome_by a after k (λ r s o. calls_outcome cells upper lower k r s o)) less
            ∙ ap₂ (λ (x : Answer) (y : Outcome). calls_outcome_by x y n (λ r s o. calls_outcome cells upper lower n r s o)) is same
            ∙ sym (ap (λ (k : ℕ). calls_outcome cells upper lower k run stack output) z) ∙ L.is

    pub call-found : {steps n : ℕ} → called.answer ≡ Found steps n → CallsOutcomeIs h (Ok (C.Reading n called.run (left - 1))) s o
    unfolding after
    call-found {steps} {n} e = parts _ (turn (Found steps n) e)

    pub call-ended : {steps : ℕ} → called.answer ≡ Ended steps → CallsOutcomeIs h (Ok C.Ended) s o
    unfolding after
    call-ended {steps} e = parts _ (turn (Ended steps) e)

    pub call-refused : {steps : ℕ} {c : Refusal} → called.answer ≡ Refused steps c → CallsOutcomeIs h (Err c) s o
    unfolding after
    call-refused {steps} {c} e = parts _ (turn (Refused steps c) e)

    pub call-paused : {steps : ℕ} → called.answer ≡ Paused steps → length s ≡ length stack → length o ≡ length output
        → CallsLeft cells upper lower h stack₀ output₀ (left - 1) called.run s o
    unfolding after
    call-paused {steps} e ks ko =
        record { is = turn (Paused steps) e; same-stack = ks ∙ L.same-stack; same-output = ko ∙ L.same-output }
