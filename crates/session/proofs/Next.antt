-- The next line, by what the calls come to.
use Prim.Native.Nat.{ℕ, zero, suc, ◌+◌, ◌≤◌, ◌<◌}
use native.Mathlib.Omega.{arith}
use mathlib.Core.Path.{◌≡◌, refl, sym, ap, ap₂, subst, subst₂, ◌∙◌}
use mathlib.Core.Bool.{Bool, true, false, cond}
use mathlib.Core.Option.{none, some}
use mathlib.Core.List.{List}
use lib.Dec.{leb}
use lib.ListN.{length, take, drop, length-append}
use borrow.Author.Tests.{le-leb, lt-leb}
use Rattle.std.specs.Prelude.{Result, Ok, Err, None, Some}
use Rattle.std.specs.Prelude.{Option as Maybe}
use Rattle.refusal.specs.declared.Refusal.{Refusal}
use Rattle.table_format.specs.Line.{line_text}
use Rattle.machine.specs.declared.Run.{Run}
use Rattle.machine.specs.declared.Answer.{Answer}
use Rattle.machine.specs.declared.Answer.TheVariants.{Found, Paused, Ended, Refused}
use Rattle.machine.specs.Reading.{Outcome, outcome}
use Rattle.session_query.specs.Query.{upper_in, lower_in}
use Rattle.session_replies.specs.Lines.{reading_line, limit_line, refusal_line, stored_line, LineStored}
use Rattle.session_opening.specs.declared.SessionState.{SessionState}
use Rattle.session_calls.specs.declared.CallResult.{CallResult}
use Rattle.session_calls.specs.declared.CallResult.TheVariants as C
use Rattle.session.specs.declared.Line.{Line}
use Rattle.session_calls.specs.Calls.{call_steps, CallsOutcome, calls_outcome_by, calls_outcome, CallsOutcomeIs}
use Rattle.session.specs.Session.{most_readings}
use Rattle.session.specs.Next.{NextLine, result_line, state_after, next_line_of, next_line, LineTold, next_told, line_told, told_of, ResultLineIs, line_outcome_of, line_outcome, LineOutcomeIs}

-- The line of what calls come to.

abbrev line_of : ℕ → Maybe SessionState → Line
line_of n next = record { length = n; next = next }

module _ (result : Result CallResult Refusal) (count : ℕ) (output line : List ℕ) (size : ℕ) (after : List ℕ) where
  abbrev TellsLine : Result CallResult Refusal → Line → Type 0
  TellsLine x r = ResultLineIs x count output (line_told r) line after

  pub line-reading : (n : ℕ) (run : Run) (calls : ℕ) → result ≡ Ok (C.Reading n run calls) → LineStored (reading_line (count + 1) (take n output)) size line after
      → TellsLine result (line_of size (Some (record { run = run; count = count + 1; calls = calls })))
  line-reading n run calls e w =
      let next : SessionState = record { run = run; count = count + 1; calls = calls } in
      subst (λ (x : Result CallResult Refusal). TellsLine x (line_of size (Some next))) (sym e) (ap (λ (k : ℕ). line_told (line_of k (Some next))) w.0, w.1)

  pub line-last : (x : Result CallResult Refusal) → result ≡ x → state_after x count ≡ none → LineStored (result_line x count output) size line after → TellsLine result (line_of size None)
  line-last x e f w =
      subst (λ (y : Result CallResult Refusal). TellsLine y (line_of size None)) (sym e)
      (ap (λ (k : ℕ). line_told (line_of k None)) w.0 ∙ ap (told_of (result_line x count output)) (sym f), w.1)

-- The next line: at the limit at once, or by the calls.

module _ (cells upper lower : List ℕ) (state : SessionState) (stack output : List ℕ) where
  pub next-limit : leb most_readings state.count ≡ true
      → next_line cells upper lower state stack output ≡ next_line_of state.count (record { result = Ok C.Spent; stack = stack; output = output })
  unfolding next_line
  next-limit e = simp e

  pub next-calls : leb most_readings state.count ≡ false
      → next_line cells upper lower state stack output ≡ next_line_of state.count (calls_outcome cells upper lower state.calls state.run stack output)
  unfolding next_line
  next-calls e = simp e

-- What the call leaves.

module _ (cells query : List ℕ) (state : SessionState) (stack output line : List ℕ) where
  abbrev Is : LineTold → List ℕ → List ℕ → List ℕ → Type 0
  Is r s o l = LineOutcomeIs (line_outcome cells query state stack output line) r s o l

  abbrev next : NextLine
  next = next_line cells (upper_in query) (lower_in query) state stack output

  by_next : (w : NextLine) (r : LineTold) (s o l : List ℕ) → next ≡ w → LineOutcomeIs (line_outcome_of w line) r s o l → Is r s o l
  unfolding line_outcome
  by_next w r s o l e i = subst (λ (x : NextLine). LineOutcomeIs (line_outcome_of x line) r s o l) (sym e) i

  pub outcome-limit : most_readings ≤ state.count → (size : ℕ) (after : List ℕ) → LineStored (limit_line state.count) size line after
      → Is (line_told (line_of size None)) stack output after
  outcome-limit h size after w =
      by_next _ (line_told (line_of size None)) stack output after (next-limit cells (upper_in query) (lower_in query) state stack output (le-leb most_readings state.count h)) (ap (λ (k : ℕ). line_told (line_of k None)) w.0, refl, refl, w.1)

  abbrev reached : List ℕ → List ℕ → CallsOutcome
  reached upper lower = calls_outcome cells upper lower state.calls state.run stack output

  pub outcome-result : state.count < most_readings → (upper lower : List ℕ) → upper ≡ upper_in query → lower ≡ lower_in query → (result : Result CallResult Refusal) (s o : List ℕ)
      → CallsOutcomeIs (reached upper lower) result s o → (r : LineTold) (l : List ℕ) → ResultLineIs result state.count o r line l → Is r s o l
  outcome-result h upper lower u v result s o (p, q, e) r l t =
      let t₂ : ResultLineIs (reached upper lower).result state.count (reached upper lower).output r line l = subst₂ (λ (x : Result CallResult Refusal) (y : List ℕ). ResultLineIs x state.count y r line l) p e t in
      by_next (next_line_of state.count (reached upper lower)) r s o l
      (next-calls cells (upper_in query) (lower_in query) state stack output (lt-leb most_readings state.count h) ∙ sym (ap₂ (λ (x y : List ℕ). next_line_of state.count (reached x y)) u v))
      (t₂.0, q, e, t₂.1)

-- What an answer says of the line, and of the calls left.

module _ (cells upper lower : List ℕ) where
  calls-fewer : (calls : ℕ) (run : Run) (stack output : List ℕ) (n : ℕ) (r : Run) (k : ℕ) → (calls_outcome cells upper lower calls run stack output).result ≡ Ok (C.Reading n r k) → k < calls
  unfolding calls_outcome
  calls-fewer zero run stack output n r k e = absurd (let z : ◌≡◌ {A = ℕ} 0 1 = cc in omega arith)
  calls-fewer (suc calls) run stack output n r k e =
      go (outcome cells upper lower run stack call_steps output).called.answer (outcome cells upper lower run stack call_steps output) (λ r' s o. calls-fewer calls r' s o n r k) e
    where
      go : (a : Answer) (o : Outcome) → ((r' : Run) (s b : List ℕ) → (calls_outcome cells upper lower calls r' s b).result ≡ Ok (C.Reading n r k) → k < calls)
          → (calls_outcome_by a o calls (λ r s b. calls_outcome cells upper lower calls r s b)).result ≡ Ok (C.Reading n r k) → k < suc calls
      go (Found steps m) o f e = let same : calls ≡ k = cc in omega arith
      go (Paused steps) o f e = let less = f o.called.run o.stack o.output e in omega arith
      go (Ended steps) o f e = absurd (let z : ◌≡◌ {A = ℕ} 0 1 = cc in omega arith)
      go (Refused steps c) o f e = absurd (let z : ◌≡◌ {A = ℕ} 0 1 = cc in omega arith)

  result-fewer : (calls : ℕ) (result : Result CallResult Refusal) (count : ℕ) (t : SessionState) → ((n : ℕ) (r : Run) (k : ℕ) → result ≡ Ok (C.Reading n r k) → k < calls) → state_after result count ≡ some t → t.calls < calls
  result-fewer calls (Ok (C.Reading n r k)) count t f e =
      let same : record { run = r; count = count + 1; calls = k } ≡ t = cc in
      let less = f n r k refl in omega (arith, ap (λ (x : SessionState). x.calls) same)
  result-fewer calls (Ok C.Ended) count t f e = absurd (let z : ◌≡◌ {A = ℕ} 0 1 = cc in omega arith)
  result-fewer calls (Err c) count t f e = absurd (let z : ◌≡◌ {A = ℕ} 0 1 = cc in omega arith)
  result-fewer calls (Ok C.Spent) count t f e = absurd (let z : ◌≡◌ {A = ℕ} 0 1 = cc in omega arith)

  next-fewer : (state : SessionState) (stack output : List ℕ) (t : SessionState) → (next_line cells upper lower state stack output).after ≡ some t → t.calls < state.calls
  unfolding next_line
  next-fewer state stack output t e = go (leb most_readings state.count) e
    where
      go : (b : Bool) → (cond b (next_line_of state.count (record { result = Ok C.Spent; stack = stack; output = output }))
          (next_line_of state.count (calls_outcome cells upper lower state.calls state.run stack output))).after ≡ some t → t.calls < state.calls
      go true e = absurd (let z : ◌≡◌ {A = ℕ} 0 1 = cc in omega arith)
      go false e =
          result-fewer state.calls (calls_outcome cells upper lower state.calls state.run stack output).result state.count t
          (λ n r k q. calls-fewer state.calls state.run stack output n r k q) e

stored-inside : (b line l : List ℕ) → l ≡ stored_line b line → length (line_text b) ≤ length l
stored-inside b line l e = omega (arith, ap length e, length-append (line_text b) (drop (length (line_text b)) line))

module _ (cells query : List ℕ) (state : SessionState) (stack output line : List ℕ) (r : Line) (s o l : List ℕ)
    (I : LineOutcomeIs (line_outcome cells query state stack output line) (line_told r) s o l) where
  abbrev given : NextLine
  given = next_line cells (upper_in query) (lower_in query) state stack output

  told : line_told r ≡ told_of given.bytes given.after
  unfolding line_outcome
  told = I.0

  -- the line is in the buffer
  pub line-inside : r.length ≤ length l
  unfolding line_outcome
  line-inside =
      let fits = stored-inside given.bytes line l I.3 in
      omega (arith, ap (λ (y : LineTold). y.length) told)

  -- and fewer calls are left where another follows
  pub calls-left : (t : SessionState) → r.next ≡ Some t → t.calls < state.calls
  calls-left t e =
      next-fewer cells (upper_in query) (lower_in query) state stack output t (sym (ap (λ (y : LineTold). y.after) told) ∙ ap next_told e)

-- the line of a refusal alone
pub refusal-inside : (c : Refusal) (line : List ℕ) (size : ℕ) (after : List ℕ) → LineStored (refusal_line c) size line after → size ≤ length after
refusal-inside c line size after w = let inside = stored-inside (refusal_line c) line after w.1 in omega (arith, w.0)
