-- One line of a session at a time. The headline theorem says that these lines, one after another, are those of Session.
use Rattle.std.specs.Prelude.{ℕ, ◌+◌, ◌≡◌, cond, List, leb, length, take, Result, Ok, Err, None, Some}
use Rattle.std.specs.Prelude.{Option as Maybe}
use Rattle.std.proofs.Math.Option.{Option, none, some}
use Rattle.refusal.specs.declared.Refusal.{Refusal}
use Rattle.table_format.specs.Line.{line_text}
use Rattle.session_query.specs.Query.{upper_in, lower_in}
use Rattle.session_calls.specs.Calls.{CallsOutcome, calls_outcome}
use Rattle.session_replies.specs.Lines.{reading_line, end_line, limit_line, refusal_line, stored_line}
use Rattle.session_opening.specs.declared.SessionState.{SessionState}
use Rattle.session_calls.specs.declared.CallResult.{CallResult}
use Rattle.session_calls.specs.declared.CallResult.TheVariants as C
use Rattle.session.specs.declared.Line.{Line}
use Rattle.session.specs.Session.{most_readings}

-- The next line.

-- a line's bytes, the state to go on with if another line follows, and the stack and the output buffer after it
pub record NextLine : Type 0 where
  pub bytes : List ℕ
  pub after : Option SessionState
  pub stack : List ℕ
  pub output : List ℕ

-- the line of what calls come to after count readings
abbrev pub result_line : Result CallResult Refusal → ℕ → List ℕ → List ℕ
result_line (Ok (C.Reading n run calls)) count output = reading_line (count + 1) (take n output)
result_line (Ok C.Ended) count output = end_line count
result_line (Err r) count output = refusal_line r
result_line (Ok C.Spent) count output = limit_line count

-- only after a reading does another line follow
abbrev pub state_after : Result CallResult Refusal → ℕ → Option SessionState
state_after (Ok (C.Reading n run calls)) count = some (record { run = run; count = count + 1; calls = calls })
state_after (Ok C.Ended) count = none
state_after (Err r) count = none
state_after (Ok C.Spent) count = none

abbrev pub next_line_of : ℕ → CallsOutcome → NextLine
next_line_of count h = record { bytes = result_line h.result count h.output; after = state_after h.result count; stack = h.stack; output = h.output }

-- "after 1,000 readings" at once
unfoldable pub next_line : (cells upper lower : List ℕ) → SessionState → List ℕ → List ℕ → NextLine
next_line cells upper lower state stack output =
    cond (leb most_readings state.count) (next_line_of state.count (record { result = Ok C.Spent; stack = stack; output = output }))
    (next_line_of state.count (calls_outcome cells upper lower state.calls state.run stack output))

-- What the call tells, and leaves in what it is lent.

-- how many characters the line has (its kind and its number stand in it), and the state to go on with where another follows
pub record LineTold : Type 0 where
  pub length : ℕ
  pub after : Option SessionState

abbrev pub next_told : Maybe SessionState → Option SessionState
next_told (Some state) = some state
next_told None = none

abbrev pub line_told : Line → LineTold
line_told l = record { length = l.length; after = next_told l.next }

-- of a line by its bytes
abbrev pub told_of : List ℕ → Option SessionState → LineTold
told_of bytes after = record { length = length (line_text bytes); after = after }

-- of the line of what calls come to, and the line buffer before and after
abbrev pub ResultLineIs : Result CallResult Refusal → ℕ → List ℕ → LineTold → List ℕ → List ℕ → Type 0
ResultLineIs result count output r before after =
    (r ≡ told_of (result_line result count output) (state_after result count)) × (after ≡ stored_line (result_line result count output) before)

pub record LineOutcome : Type 0 where
  pub told : LineTold
  pub stack : List ℕ
  pub output : List ℕ
  pub line : List ℕ

-- the line's text from the front of the buffer, the rest as it was
abbrev pub line_outcome_of : NextLine → List ℕ → LineOutcome
line_outcome_of s line =
    record {
      told = told_of s.bytes s.after;
      stack = s.stack;
      output = s.output;
      line = stored_line s.bytes line;
    }

-- the words are those of the query's bytes
unfoldable pub line_outcome : (cells query : List ℕ) → SessionState → List ℕ → List ℕ → List ℕ → LineOutcome
line_outcome cells query state stack output line = line_outcome_of (next_line cells (upper_in query) (lower_in query) state stack output) line

-- what is told, and what is lent at exit
abbrev pub LineOutcomeIs : LineOutcome → LineTold → List ℕ → List ℕ → List ℕ → Type 0
LineOutcomeIs x r s o l = (r ≡ x.told) × (s ≡ x.stack) × (o ≡ x.output) × (l ≡ x.line)
