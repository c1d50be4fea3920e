-- What the public calls give, by what their contracts say: `opening_outcome` of the opening, then `line_outcome` of next_line, or the line of
-- refused_line. A call gives the text that it leaves at the front of the line buffer.
use Rattle.std.specs.Prelude.{ℕ, zero, suc, List, [], ◌∷◌, length, take}
use Rattle.std.proofs.Math.Option.{Option, none, some}
use Rattle.table_format.specs.Line.{line_text}
use Rattle.session_replies.specs.Lines.{number_line, stored_line}
use Rattle.session_opening.specs.declared.SessionState.{SessionState}
use Rattle.session_opening.specs.Outcome.{OpeningOutcome}
use Rattle.session.specs.Session.{first_stack, first_output}
use Rattle.session.specs.Next.{LineOutcome, line_outcome}

-- what follows a line, if another does
abbrev pub next_texts : Option SessionState → (SessionState → List (List ℕ)) → List (List ℕ)
next_texts none k = []
next_texts (some state) k = k state

-- the text of a call, and those of the calls after it: the next has the state, the stack, the output and the line buffer as this one leaves them
abbrev pub texts_by : LineOutcome → (SessionState → (stack output line : List ℕ) → List (List ℕ)) → List (List ℕ)
texts_by x k = take x.told.length x.line ∷ next_texts x.told.after (λ state. k state x.stack x.output x.line)

-- at most n calls of next_line
unfoldable pub line_texts : (cells query : List ℕ) → ℕ → SessionState → (stack output line : List ℕ) → List (List ℕ)
line_texts cells query zero state stack output line = []
line_texts cells query (suc n) state stack output line = texts_by (line_outcome cells query state stack output line) (λ t s o l. line_texts cells query n t s o l)

-- at most n calls, by what the opening told, and left in the cells for the table and the bytes for the query: one of refused_line, or those of
-- next_line, the first of which is lent zeros
abbrev pub texts_after : ℕ → (number : ℕ) → Option SessionState → (table query line : List ℕ) → List (List ℕ)
texts_after n number none table query line = take n (take (length (line_text (number_line number))) (stored_line (number_line number) line) ∷ [])
texts_after n number (some state) table query line = line_texts table query n state first_stack first_output line

abbrev pub session_texts : ℕ → OpeningOutcome → (line : List ℕ) → List (List ℕ)
session_texts n x line = texts_after n x.told.answer.number x.told.state x.table x.query line
