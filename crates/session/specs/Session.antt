-- Document 01, "Lines of the text": what a session prints. "It has 4,096 stack frames, 4,096 letters of output, and calls with allowance 1,000."
use Rattle.std.specs.Prelude.{ℕ, zero, suc, ◌+◌, ◌*◌, cond, List, [], ◌∷◌, leb, take, replicate}
use Rattle.table_format.specs.Text.{join_lines}
use Rattle.machine.specs.declared.Run.{Run}
use Rattle.machine.specs.declared.Answer.{Answer}
use Rattle.machine.specs.declared.Answer.TheVariants.{Found, Paused, Ended, Refused}
use Rattle.machine.specs.Stack.{frame_width}
use Rattle.machine.specs.Reading.{Outcome, outcome}
use Rattle.session_query.specs.Query.{upper_in, lower_in}
use Rattle.session_calls.specs.Calls.{call_steps, most_calls}
use Rattle.session_replies.specs.Lines.{reading_line, end_line, limit_line, refusal_line, output_letters}
use Rattle.session_opening.specs.Opened.{Opened, unopened, ready, opened}

-- "1,000 readings"
abbrev pub most_readings : ℕ
most_readings = 1000

-- "4,096 stack frames"
abbrev pub stack_frames : ℕ
stack_frames = 4096

-- a frame has five cells
abbrev pub stack_cells : ℕ
stack_cells = stack_frames * frame_width

-- what a call's answer adds after count readings; k says how the session goes on
abbrev pub lines_by : Answer → Outcome → ℕ → (Run → List ℕ → List ℕ → ℕ → List (List ℕ)) → List (List ℕ)
lines_by (Found steps n) o count k = reading_line (count + 1) (take n o.output) ∷ k o.called.run o.stack o.output (count + 1)
lines_by (Paused steps) o count k = k o.called.run o.stack o.output count
lines_by (Ended steps) o count k = end_line count ∷ []
lines_by (Refused steps r) o count k = refusal_line r ∷ []

-- the lines that are left, each as its bytes, by the calls that are left, the run, the stack, the output buffer and the readings so far:
-- "`2D` and the count after 1,000 readings, or after 65,536 calls the last of which neither ends nor is refused, whichever is first"
unfoldable pub lines_left : (cells upper lower : List ℕ) → ℕ → Run → List ℕ → List ℕ → ℕ → List (List ℕ)
lines_left cells upper lower zero run stack output count = limit_line count ∷ []
lines_left cells upper lower (suc calls) run stack output count =
    cond (leb most_readings count) (limit_line count ∷ [])
    (lines_by (outcome cells upper lower run stack call_steps output).called.answer (outcome cells upper lower run stack call_steps output) count
    (λ r s o n. lines_left cells upper lower calls r s o n))

-- the stack and the output buffer of the first call, all 0
abbrev pub first_stack : List ℕ
first_stack = replicate stack_cells 0

abbrev pub first_output : List ℕ
first_output = replicate output_letters 0

-- a refused input gives the refusal's line alone
abbrev pub lines_on : Opened → List (List ℕ)
lines_on (unopened r) = refusal_line r ∷ []
lines_on (ready cells b run) = lines_left cells (upper_in b) (lower_in b) most_calls run first_stack first_output 0

-- the whole output, as the bytes of its lines and as characters
unfoldable pub session_lines : List ℕ → List (List ℕ)
session_lines input = lines_on (opened input)

unfoldable pub session_text : List ℕ → List ℕ
session_text input = join_lines (session_lines input)
