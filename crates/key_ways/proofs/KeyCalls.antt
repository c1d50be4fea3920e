-- The calls behind a key: by the calls up to a reading, and by the readings.
use Prim.Native.Nat.{ℕ, zero, suc, ◌+◌, ◌*◌, ◌≤◌}
use native.Mathlib.Omega.{arith}
use mathlib.Core.Path.{◌≡◌, refl, sym, ap, ap₂, subst, ◌∙◌}
use mathlib.Core.Logic.{◌⊎◌, inl, inr, ⊎_elim}
use mathlib.Core.Bool.{Bool, true, false, cond}
use mathlib.Core.List.{List, [], ◌∷◌, ◌++◌}
use lib.ListN.{length, take, length-append}
use lib.Dec.{leb}
use borrow.Author.Tests.{leb-false}
use Rattle.refusal.specs.declared.Refusal.{Refusal}
use Rattle.faces.specs.Lent.{most_readings}
use Rattle.machine.specs.declared.Run.{Run}
use Rattle.machine.specs.declared.Answer.{Answer}
use Rattle.machine.specs.declared.Answer.TheVariants.{Found, Paused, Ended, Refused}
use Rattle.machine.specs.declared.Started.{Started}
use Rattle.machine.specs.declared.StartAnswer.{StartAnswer}
use Rattle.machine.specs.declared.StartAnswer.TheVariants.{Ready}
use Rattle.machine.specs.Answer.{told, output_told}
use Rattle.machine.specs.Query.{most_ceiling}
use Rattle.machine.specs.Start.{StartedIs}
use Rattle.machine.specs.Stack.{frames_in}
use Rattle.machine.specs.Reading.{Outcome, outcome}
use Rattle.machine.specs.Demand.{Lent, used_of, one_unless_ended, run_after, used_after, received, LastEnds}
use Rattle.machine.proofs.Start.{start_is, ready-facts}
use Rattle.session_calls.specs.Calls.{call_steps, most_calls, CallsOutcome, calls_outcome_by, calls_outcome}
use Rattle.key_sheet.specs.Key.{Key, key, refused, onto, key_by, key_from, first_stack, first_output, key_started, start_of, key_of}
use Rattle.key_ways.specs.Shows.{lent_with, LastRefused, CallsTell, CallsBehind, KeyCalls}
use Rattle.key_ways.proofs.OneCall.{OneCall, one-call}

-- readings before those of a key
abbrev onto_all : List (List ℕ) → Key → Key
onto_all os (key rs ended) = key (os ++ rs) ended
onto_all os (refused r) = refused r

onto-one : (r : List ℕ) (k : Key) → onto_all (r ∷ []) k ≡ onto r k
onto-one r (key rs ended) = refl
onto-one r (refused c) = refl

onto-none : (k : Key) → onto_all [] k ≡ k
onto-none (key rs ended) = refl
onto-none (refused c) = refl

module _ (cells w : List ℕ) where
  -- no call, where no reading is asked for or no call is left
  no_calls : (n c : ℕ) (run : Run) (used stack output : List ℕ) → (0 ≡ n) ⊎ (0 ≡ c) → CallsBehind cells w n c run used stack output (key [] false)
  no_calls n c run used stack output limit =
      record {
        calls = [];
        lending = tt;
        handed = tt;
        few = omega arith;
        tell =
            record {
              same = refl;
              few-readings = omega arith;
              end_is = λ e. absurd (let z : ◌≡◌ {A = ℕ} 0 1 = cc in omega arith);
              more-is = λ e. limit;
              none-ended = λ e. refl;
              steps-made = λ e. omega arith;
            };
      }

  -- one call, and what is behind the rest of the key
  module _ (run : Run) (used stack output : List ℕ) (J : run.depth ≤ frames_in stack → used_of run.depth stack ≡ used) where
    abbrev x : Lent
    x = lent_with cells stack output

    abbrev O : Outcome
    O = outcome cells w [] run stack call_steps output

    L : OneCall run stack call_steps output O
    L = one-call cells w [] run stack call_steps output

    -- the frames that the next call finds are those that this one left
    next_used : O.called.run.depth ≤ frames_in O.stack → used_of O.called.run.depth O.stack ≡ used_after w [] run used x
    next_used h = go (leb run.depth (frames_in stack)) refl
      where
        go : (b : Bool) → leb run.depth (frames_in stack) ≡ b → used_of O.called.run.depth O.stack ≡ cond b (used_of O.called.run.depth O.stack) used
        go true e = refl
        go false e = absurd (omega (arith, L.short (leb-false _ _ e)))

    last-ends : (ys : List Lent) → LastEnds w [] (run_after w [] run x) ys → LastEnds w [] run (x ∷ ys)
    last-ends [] e = absurd e
    last-ends (y ∷ ys) e = e

    last-refused : (ys : List Lent) (r : Refusal) → LastRefused w (run_after w [] run x) ys r → LastRefused w run (x ∷ ys) r
    last-refused [] r e = absurd e
    last-refused (y ∷ ys) r e = e

    -- a call that does not end the key and tells the readings os, none or one
    module _ (a : Answer) (e : O.called.answer ≡ a) (goes_on : one_unless_ended (told a).kind ≡ 1) (os : List (List ℕ)) (tells : output_told (told a) O.output ≡ os)
        (makes : call_steps ≤ (told a).steps + call_steps * length os) where
      more-calls : (n m c : ℕ) → length os + n ≡ m → (ys : List Lent) (k : Key) → CallsTell w n c O.called.run ys k → CallsTell w m (suc c) run (x ∷ ys) (onto_all os k)
      more-calls n m c size ys (refused r) T = last-refused ys r T
      more-calls n m c size ys (key rs ended) T =
          let long : length (os ++ rs) ≡ length os + length rs = length-append os rs in
          let lengths : length rs ≤ n = T.few-readings in
          record {
            same = ap (λ (b : Answer). output_told (told b) O.output ++ received w [] O.called.run ys) e ∙ ap₂ (λ (p q : List (List ℕ)). p ++ q) tells T.same;
            few-readings = omega arith;
            end_is = λ h. last-ends ys (T.end_is h);
            more-is = λ h. ⊎_elim (λ l. inl (omega arith)) (λ l. inr (omega arith)) (T.more-is h);
            none-ended = λ h. omega (arith, T.none-ended h, ap (λ (b : Answer). one_unless_ended (told b).kind) e);
            steps-made = λ h. omega (arith, T.steps-made h, ap (λ (b : Answer). (told b).steps) e);
          }

      more-behind : (n m c : ℕ) → length os + n ≡ m → (k : Key) → CallsBehind cells w n c O.called.run (used_after w [] run used x) O.stack O.output k
          → CallsBehind cells w m (suc c) run used stack output (onto_all os k)
      more-behind n m c size k B =
          record {
            calls = x ∷ B.calls;
            lending = (refl, B.lending);
            handed = (refl, J, B.handed);
            few = omega (arith, B.few);
            tell = more-calls n m c size B.calls k B.tell;
          }

    by-found : (n c steps m : ℕ) → O.called.answer ≡ Found steps m → (k : Key) → CallsBehind cells w n c O.called.run (used_after w [] run used x) O.stack O.output k
        → CallsBehind cells w (suc n) (suc c) run used stack output (onto (take m O.output) k)
    by-found n c steps m e k B =
        subst (CallsBehind cells w (suc n) (suc c) run used stack output) (onto-one (take m O.output) k)
        (more-behind (Found steps m) e refl (take m O.output ∷ []) refl (omega arith) n (suc n) c (omega arith) k B)

    by_pause : (n c steps : ℕ) → O.called.answer ≡ Paused steps → (k : Key) → CallsBehind cells w n c O.called.run (used_after w [] run used x) O.stack O.output k
        → CallsBehind cells w n (suc c) run used stack output k
    by_pause n c steps e k B =
        let made : steps ≡ call_steps = sym (ap (λ (b : Answer). (told b).steps) e) ∙ L.paused (ap (λ (b : Answer). (told b).kind) e) in
        subst (CallsBehind cells w n (suc c) run used stack output) (onto-none k) (more-behind (Paused steps) e refl [] refl (omega arith) n n c (omega arith) k B)

    -- a call that ends it
    last-call : (n c : ℕ) (k : Key) → CallsTell w n (suc c) run (x ∷ []) k → CallsBehind cells w n (suc c) run used stack output k
    last-call n c k T = record { calls = x ∷ []; lending = (refl, tt); handed = (refl, J, tt); few = omega arith; tell = T }

    by_end : (n c steps : ℕ) → O.called.answer ≡ Ended steps → CallsBehind cells w n (suc c) run used stack output (key [] true)
    by_end n c steps e =
        last-call n c (key [] true)
        (record {
          same = ap (λ (b : Answer). output_told (told b) O.output ++ []) e;
          few-readings = omega arith;
          end_is = λ h. ap (λ (b : Answer). (told b).kind) e;
          more-is = λ h. absurd (let z : ◌≡◌ {A = ℕ} 0 1 = cc in omega arith);
          none-ended = λ h. absurd (let z : ◌≡◌ {A = ℕ} 0 1 = cc in omega arith);
          steps-made = λ h. absurd (let z : ◌≡◌ {A = ℕ} 0 1 = cc in omega arith);
        })

  -- The key from any place on.

  abbrev From : ℕ → Type 0
  From n = (c : ℕ) (run : Run) (used stack output : List ℕ) → (run.depth ≤ frames_in stack → used_of run.depth stack ≡ used)
      → CallsBehind cells w n c run used stack output (key_from cells w n c run stack output)

  abbrev to-reading : ℕ → CallsOutcome → Key
  to-reading n h = key_by h.result h (λ c r s o. key_from cells w n c r s o)

  -- the calls up to a reading
  up_to : (n : ℕ) → From n → (c : ℕ) (run : Run) (used stack output : List ℕ) → (run.depth ≤ frames_in stack → used_of run.depth stack ≡ used)
      → CallsBehind cells w (suc n) c run used stack output (to-reading n (calls_outcome cells w [] c run stack output))
  unfolding calls_outcome
  up_to n F zero run used stack output J = no_calls (suc n) 0 run used stack output (inr refl)
  up_to n F (suc c) run used stack output J = go o.called.answer refl (up_to n F c o.called.run used' o.stack o.output (next_used run used stack output J))
    where
      o : Outcome
      o = outcome cells w [] run stack call_steps output

      used' : List ℕ
      used' = used_after w [] run used (lent_with cells stack output)

      go : (a : Answer) → o.called.answer ≡ a → CallsBehind cells w (suc n) c o.called.run used' o.stack o.output (to-reading n (calls_outcome cells w [] c o.called.run o.stack o.output))
          → CallsBehind cells w (suc n) (suc c) run used stack output (to-reading n (calls_outcome_by a o c (λ r s b. calls_outcome cells w [] c r s b)))
      go (Found steps m) e B =
          by-found run used stack output J n c steps m e (key_from cells w n c o.called.run o.stack o.output) (F c o.called.run used' o.stack o.output (next_used run used stack output J))
      go (Paused steps) e B = by_pause run used stack output J (suc n) c steps e (to-reading n (calls_outcome cells w [] c o.called.run o.stack o.output)) B
      go (Ended steps) e B = by_end run used stack output J (suc n) c steps e
      go (Refused steps r) e B = last-call run used stack output J (suc n) c (refused r) (steps, e)

  from : (n : ℕ) → From n
  unfolding key_from
  from zero c run used stack output J = no_calls 0 c run used stack output (inl refl)
  from (suc n) c run used stack output J = up_to n (from n) c run used stack output J

  -- from a start that is ready
  pub key-calls : (s : Started) → StartedIs (start_of cells w) s → s.answer ≡ Ready → KeyCalls cells w s.run (key_of cells w)
  unfolding key_of
  key-calls s S e =
      let same : s ≡ start_of cells w = start_is S in
      let R = ready-facts cells 2 w [] most_ceiling s S e in
      let d : s.run.depth ≡ 0 = ap (λ (r : Run). r.depth) R.run_is in
      subst (KeyCalls cells w s.run) (ap (λ (r : Started). key_started cells w r.answer r.run) same)
      (subst (λ (a : StartAnswer). KeyCalls cells w s.run (key_started cells w a s.run)) (sym e)
      (from most_readings most_calls s.run [] first_stack first_output (λ h. ap (λ (n : ℕ). used_of n first_stack) d)))
