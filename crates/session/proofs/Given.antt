-- The texts that the public calls give, one after another, are those of the definition's lines.
use Prim.Native.Nat.{ℕ, zero, suc, ◌+◌, ◌≤◌, ◌<◌}
use native.Mathlib.Omega.{arith}
use mathlib.Core.Path.{◌≡◌, refl, sym, ap, ap₂, ◌∙◌}
use mathlib.Core.Bool.{Bool, true, false, cond}
use mathlib.Core.Option.{Option, none, some}
use mathlib.Core.List.{List, [], ◌∷◌, ◌++◌, map, append-nil}
use lib.Dec.{leb}
use lib.ListN.{length, take, drop}
use lib.Seq.{take-nil, take_at}
use borrow.Author.Tests.{leb-false}
use Rattle.refusal.specs.declared.Refusal.{Refusal}
use Rattle.table_format.specs.Table.{Table}
use Rattle.table_format.specs.Rules.{keeps_rules}
use Rattle.table_format.specs.Loaded.{cells_of, loaded}
use Rattle.table_format.specs.Line.{line_text}
use Rattle.table_format.proofs.Loaded.{loaded-cells}
use Rattle.machine.specs.declared.Run.{Run}
use Rattle.machine.specs.declared.Answer.{Answer}
use Rattle.machine.specs.declared.Answer.TheVariants.{Found, Paused, Ended, Refused}
use Rattle.machine.specs.Asked.{asked_table, asked}
use Rattle.machine.specs.Reading.{Outcome, outcome_of, outcome}
use Rattle.session_query.specs.Query.{upper_in, lower_in, filled}
use Rattle.session_query.proofs.Queries.{upper-filled, lower-filled}
use Rattle.session_replies.specs.Lines.{reading_line, limit_line, refusal_line, stored_line}
use Rattle.session_opening.specs.declared.SessionState.{SessionState}
use Rattle.session_opening.specs.Opened.{Opened, unopened, ready, opened}
use Rattle.session_opening.specs.Outcome.{first_state, opening_outcome}
use Rattle.session.specs.Session.{most_readings, lines_by, lines_left, first_stack, first_output, lines_on, session_lines}
use Rattle.session_calls.specs.Calls.{call_steps, most_calls, calls_outcome_by, calls_outcome}
use Rattle.session.specs.Next.{NextLine, next_line_of, next_line, line_outcome_of, line_outcome}
use Rattle.session.specs.Given.{next_texts, texts_by, line_texts, session_texts}
use Rattle.session_opening.proofs.Whole.{WholeIf, opened-whole}
use Rattle.session.proofs.Next.{next-limit, next-calls}

-- A line's text at the front of the line buffer.

stored-front : (b line : List ℕ) → take (length (line_text b)) (stored_line b line) ≡ line_text b
stored-front b line = take_at (line_text b) (drop (length (line_text b)) line) (length (line_text b)) refl

texts_next : (s : NextLine) (line : List ℕ) (k : SessionState → List ℕ → List ℕ → List ℕ → List (List ℕ))
    → texts_by (line_outcome_of s line) k ≡ line_text s.bytes ∷ next_texts s.after (λ t. k t s.stack s.output (stored_line s.bytes line))
texts_next s line k = ap (λ (x : List ℕ). x ∷ next_texts s.after (λ t. k t s.stack s.output (stored_line s.bytes line))) (stored-front s.bytes line)

-- the line of a refusal alone
texts_refused : (n : ℕ) (r : Refusal) (line : List ℕ)
    → take n (take (length (line_text (refusal_line r))) (stored_line (refusal_line r) line) ∷ []) ≡ map line_text (take n (refusal_line r ∷ []))
texts_refused zero r line = refl
texts_refused (suc n) r line = ap₂ (λ (x : List ℕ) (ls : List (List ℕ)). x ∷ ls) (stored-front (refusal_line r) line) (take-nil n ∙ sym (ap (map line_text) (take-nil n)))

-- The lines that are left, by the next one.

module _ (cells upper lower : List ℕ) where
  abbrev left : ℕ → Run → List ℕ → List ℕ → ℕ → List (List ℕ)
  left = lines_left cells upper lower

  -- a line, and those after it
  abbrev after : NextLine → List (List ℕ)
  after s = next_texts s.after (λ t. left t.calls t.run s.stack s.output t.count)

  left-limit : (calls : ℕ) (run : Run) (stack output : List ℕ) (count : ℕ) → leb most_readings count ≡ true → left calls run stack output count ≡ limit_line count ∷ []
  unfolding lines_left
  left-limit zero run stack output count e = refl
  left-limit (suc calls) run stack output count e =
      ap
      (λ (b : Bool). cond b (limit_line count ∷ []) (lines_by (outcome cells upper lower run stack call_steps output).called.answer (outcome cells upper lower run stack call_steps output) count (λ r s o n. left calls r s o n)))
      e

  left-calls : (count : ℕ) → leb most_readings count ≡ false → (calls : ℕ) (run : Run) (stack output : List ℕ)
      → left calls run stack output count ≡ (next_line_of count (calls_outcome cells upper lower calls run stack output)).bytes ∷ after (next_line_of count (calls_outcome cells upper lower calls run stack output))
  unfolding lines_left calls_outcome
  left-calls count e zero run stack output = refl
  left-calls count e (suc calls) run stack output =
      ap (λ (b : Bool). cond b (limit_line count ∷ []) (lines_by o.called.answer o count (λ r s o n. left calls r s o n))) e
      ∙ go o.called.answer o (λ r s b. left-calls count e calls r s b)
    where
      o : Outcome
      o = outcome cells upper lower run stack call_steps output

      line : Answer → Outcome → NextLine
      line a o = next_line_of count (calls_outcome_by a o calls (λ r s b. calls_outcome cells upper lower calls r s b))

      go : (a : Answer) (o : Outcome)
          → ((r : Run) (s b : List ℕ) → left calls r s b count ≡ (next_line_of count (calls_outcome cells upper lower calls r s b)).bytes ∷ after (next_line_of count (calls_outcome cells upper lower calls r s b)))
          → lines_by a o count (λ r s o n. left calls r s o n) ≡ (line a o).bytes ∷ after (line a o)
      go (Found steps n) o f = refl
      go (Paused steps) o f = f o.called.run o.stack o.output
      go (Ended steps) o f = refl
      go (Refused steps r) o f = refl

  -- the next line, then those after it
  left-next : (state : SessionState) (stack output : List ℕ)
      → left state.calls state.run stack output state.count ≡ (next_line cells upper lower state stack output).bytes ∷ after (next_line cells upper lower state stack output)
  left-next state stack output = go (leb most_readings state.count) refl
    where
      whole : NextLine → List (List ℕ)
      whole s = s.bytes ∷ after s

      go : (b : Bool) → leb most_readings state.count ≡ b → left state.calls state.run stack output state.count ≡ whole (next_line cells upper lower state stack output)
      go true e = left-limit state.calls state.run stack output state.count e ∙ sym (ap whole (next-limit cells upper lower state stack output e))
      go false e = left-calls state.count e state.calls state.run stack output ∙ sym (ap whole (next-calls cells upper lower state stack output e))

-- call after call, the texts are those of the lines left
texts_lines : (cells query : List ℕ) (n : ℕ) (state : SessionState) (stack output line : List ℕ)
    → line_texts cells query n state stack output line ≡ map line_text (take n (lines_left cells (upper_in query) (lower_in query) state.calls state.run stack output state.count))
unfolding line_texts line_outcome
texts_lines cells query zero state stack output line = refl
texts_lines cells query (suc n) state stack output line =
    texts_next next line (λ t s o l. line_texts cells query n t s o l)
    ∙ ap (λ (ls : List (List ℕ)). line_text next.bytes ∷ ls)
    (rest next.after next.stack next.output (stored_line next.bytes line) (λ t s o l. texts_lines cells query n t s o l))
    ∙ sym (ap (λ (ls : List (List ℕ)). map line_text (take (suc n) ls)) (left-next cells (upper_in query) (lower_in query) state stack output))
  where
    next : NextLine
    next = next_line cells (upper_in query) (lower_in query) state stack output

    lines : SessionState → List ℕ → List ℕ → List (List ℕ)
    lines t s o = lines_left cells (upper_in query) (lower_in query) t.calls t.run s o t.count

    rest : (a : Option SessionState) (s o l : List ℕ) → ((t : SessionState) (s o l : List ℕ) → line_texts cells query n t s o l ≡ map line_text (take n (lines t s o)))
        → next_texts a (λ t. line_texts cells query n t s o l) ≡ map line_text (take n (next_texts a (λ t. lines t s o)))
    rest none s o l f = sym (ap (map line_text) (take-nil n))
    rest (some t) s o l f = f t s o l

-- Cells beyond the table play no part.

module _ (t : Table) (keeps : keeps_rules t ≡ true) (rest upper lower : List ℕ) where
  outcome-same : (run : Run) (stack : List ℕ) (allowance : ℕ) (output : List ℕ)
      → outcome (cells_of t ++ rest) upper lower run stack allowance output ≡ outcome (cells_of t) upper lower run stack allowance output
  unfolding outcome asked
  outcome-same run stack allowance output =
      ap (λ (o : Option Table). outcome_of (asked_table o run.task upper lower run.ceiling) run stack allowance output)
      (loaded-cells t rest keeps ∙ sym (loaded-cells t [] keeps) ∙ ap loaded (append-nil (cells_of t)))

  left-same : (calls : ℕ) (run : Run) (stack output : List ℕ) (count : ℕ)
      → lines_left (cells_of t ++ rest) upper lower calls run stack output count ≡ lines_left (cells_of t) upper lower calls run stack output count
  unfolding lines_left
  left-same zero run stack output count = refl
  left-same (suc calls) run stack output count =
      ap
      (λ (o : Outcome). cond (leb most_readings count) (limit_line count ∷ []) (lines_by o.called.answer o count (λ r s b n. lines_left (cells_of t ++ rest) upper lower calls r s b n)))
      (outcome-same run stack call_steps output)
      ∙ ap (cond (leb most_readings count) (limit_line count ∷ [])) (go (outcome (cells_of t) upper lower run stack call_steps output).called.answer (outcome (cells_of t) upper lower run stack call_steps output) (λ r s b n. left-same calls r s b n))
    where
      go : (a : Answer) (o : Outcome)
          → ((r : Run) (s b : List ℕ) (n : ℕ) → lines_left (cells_of t ++ rest) upper lower calls r s b n ≡ lines_left (cells_of t) upper lower calls r s b n)
          → lines_by a o count (λ r s b n. lines_left (cells_of t ++ rest) upper lower calls r s b n) ≡ lines_by a o count (λ r s b n. lines_left (cells_of t) upper lower calls r s b n)
      go (Found steps m) o f = ap (λ (ls : List (List ℕ)). reading_line (count + 1) (take m o.output) ∷ ls) (f o.called.run o.stack o.output (count + 1))
      go (Paused steps) o f = f o.called.run o.stack o.output count
      go (Ended steps) o f = refl
      go (Refused steps r) o f = refl

-- The lines that an opening leads to.

module _ (table query line : List ℕ) (n : ℕ) where
  by-opened : (o : Opened) → WholeIf o → session_texts n (opening_outcome o table query) line ≡ map line_text (take n (lines_on o))
  by-opened (unopened r) w = texts_refused n r line
  by-opened (ready cells b run) w =
      texts_lines (cells ++ rest) (filled b) n (first_state run) first_stack first_output line
      ∙ ap (λ (ls : List (List ℕ)). map line_text (take n ls)) same
    where
      rest : List ℕ
      rest = drop (length cells) table

      lines : (cells upper lower : List ℕ) → List (List ℕ)
      lines cells upper lower = lines_left cells upper lower most_calls run first_stack first_output 0

      same : lines (cells ++ rest) (upper_in (filled b)) (lower_in (filled b)) ≡ lines cells (upper_in b) (lower_in b)
      same =
          (λ i. lines (w.cells_are i ++ rest) (upper-filled b w.query i) (lower-filled b w.query i))
          ∙ left-same w.table w.keeps rest (upper_in b) (lower_in b) most_calls run first_stack first_output 0
          ∙ ap (λ (c : List ℕ). lines c (upper_in b) (lower_in b)) (sym w.cells_are)

  pub texts_session : (input : List ℕ) → session_texts n (opening_outcome (opened input) table query) line ≡ map line_text (take n (session_lines input))
  unfolding session_lines
  texts_session input = by-opened (opened input) (opened-whole input)

-- There are at most 1,001 lines.

left-few : (cells upper lower : List ℕ) (calls : ℕ) (run : Run) (stack output : List ℕ) (count : ℕ) → count ≤ most_readings
    → length (lines_left cells upper lower calls run stack output count) + count ≤ most_readings + 1
unfolding lines_left
left-few cells upper lower zero run stack output count h = omega arith
left-few cells upper lower (suc calls) run stack output count h =
    go (leb most_readings count) refl (outcome cells upper lower run stack call_steps output).called.answer (outcome cells upper lower run stack call_steps output) (λ r s o n k. left-few cells upper lower calls r s o n k)
  where
    by : (a : Answer) (o : Outcome) → count < most_readings
        → ((r : Run) (s b : List ℕ) (n : ℕ) → n ≤ most_readings → length (lines_left cells upper lower calls r s b n) + n ≤ most_readings + 1)
        → length (lines_by a o count (λ r s b n. lines_left cells upper lower calls r s b n)) + count ≤ most_readings + 1
    by (Found steps m) o g f = let w = f o.called.run o.stack o.output (count + 1) (omega arith) in omega arith
    by (Paused steps) o g f = f o.called.run o.stack o.output count h
    by (Ended steps) o g f = omega arith
    by (Refused steps r) o g f = omega arith

    go : (x : Bool) → leb most_readings count ≡ x → (a : Answer) (o : Outcome)
        → ((r : Run) (s b : List ℕ) (n : ℕ) → n ≤ most_readings → length (lines_left cells upper lower calls r s b n) + n ≤ most_readings + 1)
        → length (cond x (limit_line count ∷ []) (lines_by a o count (λ r s b n. lines_left cells upper lower calls r s b n))) + count ≤ most_readings + 1
    go true e a o f = omega arith
    go false e a o f = by a o (leb-false most_readings count e) f

pub lines-few : (input : List ℕ) → length (session_lines input) ≤ most_readings + 1
unfolding session_lines
lines-few input = go (opened input)
  where
    go : (o : Opened) → length (lines_on o) ≤ most_readings + 1
    go (unopened r) = omega arith
    go (ready cells b run) = omega (arith, left-few cells (upper_in b) (lower_in b) most_calls run first_stack first_output 0 (omega arith))
