-- Document 01, "Table and paths", and document 02, slips 6 and 10: the machine of a table and a query. Each side is read or written; its datum is
-- how many of its letters were passed, and the sum of the penalties.
use Rattle.std.specs.Prelude.{ℕ, zero, suc, ◌+◌, ◌-◌, ◌*◌, Bool, true, false, cond, ◌&&◌, List, [], ◌∷◌, ◌++◌, length, get_or, eqb}
use Rattle.std.proofs.Math.Option.{Option, none, some}
use Rattle.table_format.specs.Table.{Arc, Table, no_arc}
use Rattle.table_format.specs.Classes.{is_plain, row_of, with_letter}
use Rattle.table_format.specs.Index.{below}
pub use Rattle.graph.specs.Lists.{member}
use Rattle.machine.specs.Query.{Side, upper_side, lower_side, reads, letter, Query, word}
use Rattle.machine.specs.Machine.{Machine, bind, somewhen, listed}
use Rattle.machine.specs.Ceiling.{ceiled}

-- "Arcs are numbered from 0 in file order"
abbrev pub arc_at : Table → ℕ → Arc
arc_at t n = get_or t.arcs n no_arc

-- One side, read (true) or written (false), with its word w, a letter x of an arc, and n letters passed.

-- "Each nonzero letter of the arc must be the next letter of its word"; "a nonzero lower letter is appended to the output"
abbrev pub side_follow : Bool → List ℕ → ℕ → ℕ → Option ℕ
side_follow r w zero n = some n
side_follow true w (suc x) n = somewhen (eqb (get_or w n 0) (suc x)) (suc n)
side_follow false w (suc x) n = some (suc n)

-- "a nonzero lower letter is appended to the output"
abbrev pub side_writes : Bool → ℕ → List ℕ
side_writes true x = []
side_writes false zero = []
side_writes false (suc x) = suc x ∷ []

-- "every given word is read to its end"
abbrev pub side_done : Bool → List ℕ → ℕ → Bool
side_done true w n = eqb n (length w)
side_done false w n = true

-- the letters to read
abbrev pub side_to_read : Bool → List ℕ → ℕ
side_to_read true w = length w
side_to_read false w = 0

-- how many letters of the output n passed letters are
abbrev pub side_written : Bool → ℕ → ℕ
side_written true n = 0
side_written false n = n

-- Both sides.

-- "how many letters were passed, read or written, on the upper and on the lower side"
pub record Passed : Type 0 where
  pub up : ℕ
  pub low : ℕ

-- what was passed on a side
abbrev pub passed : Passed → Side → ℕ
passed d upper_side = d.up
passed d lower_side = d.low

-- "with nothing passed on either side"
abbrev pub nothing_passed : Passed
nothing_passed = record { up = 0; low = 0 }

-- both sides fit
abbrev pub both : Option ℕ → Option ℕ → Option Passed
both none o = none
both (some u) none = none
both (some u) (some l) = some (record { up = u; low = l })

module _ (q : Query) where
  -- an arc on a side
  abbrev pub follow_on : Side → Arc → Passed → Option ℕ
  follow_on s a d = side_follow (reads q.task s) (word s q) (letter s a) (passed d s)

  -- an arc fits where it fits on both sides
  abbrev pub follow_arc : Arc → Passed → Option Passed
  follow_arc a d = both (follow_on upper_side a d) (follow_on lower_side a d)

  -- what an arc writes on a side
  abbrev pub writes_on : Side → Arc → List ℕ
  writes_on s a = side_writes (reads q.task s) (letter s a)

  -- what it writes; at most one side is written
  abbrev pub writes_arc : Arc → List ℕ
  writes_arc a = writes_on upper_side a ++ writes_on lower_side a

  -- a side's word is read to its end, if it is read
  abbrev pub done_on : Side → Passed → Bool
  done_on s d = side_done (reads q.task s) (word s q) (passed d s)

  -- the letters to read on a side
  abbrev pub to_read_on : Side → ℕ
  to_read_on s = side_to_read (reads q.task s) (word s q)

  -- "The letters to read are those of every word that the task reads."
  abbrev pub letters_to_read : ℕ
  letters_to_read = to_read_on upper_side + to_read_on lower_side

  -- the output's length, from the counts (written-length)
  abbrev pub written_on : Side → Passed → ℕ
  written_on s d = side_written (reads q.task s) (passed d s)

  -- of both sides
  abbrev pub written_by : Passed → ℕ
  written_by d = written_on upper_side d + written_on lower_side d

-- Slip 6. Where an arc has a class, the next letter decides which plain arc it is; the rules of the sides then hold of that arc.

-- the next letter of a word that is read: of the upper one, if it is; 0 at its end
abbrev pub next_letter : Bool → List ℕ → List ℕ → Passed → ℕ
next_letter up upper lower d = cond up (get_or upper d.up 0) (get_or lower d.low 0)

-- a letter is in a class; 0 only fills its row up
abbrev pub in_row : ℕ → List ℕ → Bool
in_row zero row = false
in_row (suc x) row = member (suc x) row

-- an arc of a class where x is the next letter: "it fits if the next letter is in the class", and "the letter read is written"
abbrev pub class_arc : List ℕ → Arc → ℕ → Option Arc
class_arc row a x = cond (in_row x row) (some (with_letter a x)) none

-- the plain arc that an arc is where x is the next letter, if it is one
abbrev pub plain_by : List (List ℕ) → Arc → ℕ → Option Arc
plain_by rows a x = cond (is_plain a) (some a) (class_arc (row_of rows a.upper) a x)

-- the same after what was passed
abbrev pub plain_at : Table → Query → Arc → Passed → Option Arc
plain_at t q a d = plain_by t.classes a (next_letter (reads q.task upper_side) q.upper_word q.lower_word d)

-- what an arc makes of what was passed, and what it writes there
abbrev pub follow_at : Table → Query → Arc → Passed → Option Passed
follow_at t q a d = bind (plain_at t q a d) (λ b. follow_arc q b d)

abbrev pub writes_at : Table → Query → Arc → Passed → List ℕ
writes_at t q a d = listed (plain_at t q a d) (writes_arc q)

-- the machine of a table and a query, whatever the arcs' penalties
abbrev pub plain_machine : Table → Query → Machine
plain_machine t q =
    record {
      D = Passed;
      initials = t.initials;
      first = λ s. below s t.arcs;
      arity = λ s. below (suc s) t.arcs - below s t.arcs;
      target = λ n. (arc_at t n).target;
      terminal = λ s. member s t.terminals;
      d₀ = nothing_passed;
      follow = λ n d. follow_at t q (arc_at t n) d;
      writes = λ n d. writes_at t q (arc_at t n) d;
      done = λ d. done_on q upper_side d && done_on q lower_side d;
      same = λ d e. eqb d.up e.up && eqb d.low e.low;
      limit = (letters_to_read q + 1) * t.states;
    }

-- Slip 10. The penalty of an arc; "An arc that would lift the sum over the ceiling does not fit".

abbrev pub penalty_at : Table → ℕ → ℕ
penalty_at t n = (arc_at t n).penalty

-- the machine of a table and a query
abbrev pub machine : Table → Query → Machine
machine t q = ceiled (plain_machine t q) (penalty_at t) q.ceiling
