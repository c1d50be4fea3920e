-- Document 01, "Lines of the text": "exactly one query: `10`, task, upper length (one byte), upper letters, lower length, lower letters".
use Rattle.std.specs.Prelude.{ℕ, ◌+◌, Bool, cond, ◌&&◌, List, [], ◌∷◌, ◌++◌, eqb, length, get_or, take, drop, replicate}
use Rattle.refusal.specs.declared.InputCause.{InputCause}
use Rattle.refusal.specs.declared.InputCause.TheVariants.{Malformed, Misplaced}
use Rattle.table_format.specs.Rules.{is_empty}
use Rattle.table_format.specs.Line.{Line, malformed, bytes_of}

-- the most bytes of a query: kind, task and a length, 255 letters, a length, 255 letters
abbrev pub query_bytes : ℕ
query_bytes = 3 + 255 + 1 + 255

-- the parts of a query's bytes
abbrev pub task_in : List ℕ → ℕ
task_in b = get_or b 1 0

abbrev pub upper_length : List ℕ → ℕ
upper_length b = get_or b 2 0

abbrev pub lower_length : List ℕ → ℕ
lower_length b = get_or b (3 + upper_length b) 0

-- the word whose length stands at a place
abbrev pub word_at : List ℕ → ℕ → List ℕ
word_at b at = take (get_or b at 0) (drop (at + 1) b)

abbrev pub upper_in : List ℕ → List ℕ
upper_in b = word_at b 2

abbrev pub lower_in : List ℕ → List ℕ
lower_in b = word_at b (3 + upper_length b)

-- the kind (10 in base sixteen), and as many bytes as the parts have
unfoldable pub is_query : List ℕ → Bool
is_query b = eqb (get_or b 0 0) 16 && eqb (length b) (4 + upper_length b + lower_length b)

-- the bytes of a query, or why there is none
pub data QueryRead : Type 0 where
  fault : InputCause → QueryRead
  says : List ℕ → QueryRead

-- bytes from the front of an array that holds every query; the others are 0
unfoldable pub filled : List ℕ → List ℕ
filled b = b ++ drop (length b) (replicate query_bytes 0)

-- "a query missing, of wrong kind or length, or followed by text gives 2"; a line that is malformed gives 1
unfoldable pub query_of : List Line → QueryRead
query_of [] = fault Misplaced
query_of (l ∷ ls) =
    cond (malformed l) (fault Malformed)
    (cond (is_query (bytes_of l.chars) && is_empty ls) (says (bytes_of l.chars)) (fault Misplaced))
