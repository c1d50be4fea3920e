-- What the three public calls come to, by their contracts: the opening, then the lines of one that is ready, or the line of one that is refused.
use Prim.Native.Nat.{ℕ, ◌+◌, ◌≤◌}
use mathlib.Core.Path.{◌≡◌, refl, ap, ◌∙◌}
use mathlib.Core.List.{List, [], ◌∷◌, ◌++◌, map, flatten}
use lib.ListN.{length, take}
use lib.Seq.{take_all}
use Rattle.table_format.specs.Line.{line_text}
use Rattle.table_format.specs.Text.{join_lines}
use Rattle.session_opening.specs.Opened.{opened}
use Rattle.session_opening.specs.Outcome.{opening_outcome}
use Rattle.session.specs.Session.{most_readings, session_lines, session_text}
use Rattle.session.specs.Given.{session_texts}
use Rattle.session.proofs.Given.{texts_session, lines-few}

-- There are at most 1,001 lines.
pub session-few : (input : List ℕ) → length (session_lines input) ≤ most_readings + 1
session-few input = lines-few input

-- the text of some lines is their texts, one after another
join_texts : (ls : List (List ℕ)) → flatten (map line_text ls) ≡ join_lines ls
unfolding join_lines flatten
join_texts [] = refl
join_texts (b ∷ ls) = ap (λ (l : List ℕ). line_text b ++ l) (join_texts ls)

-- For every input, whatever the cells for the table, the bytes for the query and the line buffer held, and for every number of calls. The stack and
-- the output buffer of the first call are zeros.
module _ (input table query line : List ℕ) where
  -- The opening, and then at most n calls, give the texts of the session's lines, from the first on.
  pub session_lines_lem : (n : ℕ) → session_texts n (opening_outcome (opened input) table query) line ≡ map line_text (take n (session_lines input))
  session_lines_lem n = texts_session table query line n input

  -- 1,001 calls give all of them
  pub session-all : session_texts (most_readings + 1) (opening_outcome (opened input) table query) line ≡ map line_text (session_lines input)
  session-all = session_lines_lem (most_readings + 1) ∙ ap (map line_text) (take_all (most_readings + 1) (session_lines input) (session-few input))

  -- so what they give, one after another, is the session's text
  pub session_text_lem : flatten (session_texts (most_readings + 1) (opening_outcome (opened input) table query) line) ≡ session_text input
  unfolding session_text
  session_text_lem = ap flatten session-all ∙ join_texts (session_lines input)
