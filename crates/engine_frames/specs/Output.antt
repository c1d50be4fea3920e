-- The output gathered from the cells of the frames.
use Rattle.std.specs.Prelude.{ℕ, zero, suc, pred, ◌<◌, ◌≤◌, cond, ◌&&◌, List, [], ◌∷◌, ◌++◌, ltb}
use Rattle.table_format.specs.Table.{Arc}
use Rattle.table_format.specs.Classes.{first_class}
use Rattle.table_format.specs.Cells.{arc_count, arc_of}
use Rattle.machine.specs.Query.{Side, upper_side, lower_side, letter}
use Rattle.machine.specs.Transducer.{Passed, next_letter}
use Rattle.machine.specs.Stack.{frames_in, look_at}
use Rattle.engine_frames.specs.declared.Setup.{Setup}

-- a letter, where it is one
abbrev pub letter_in : ℕ → List ℕ
letter_in zero = []
letter_in (suc x) = suc x ∷ []

-- the side that is written: the lower one where the upper one is read
abbrev pub side_by : Setup → Side
side_by s = cond s.up lower_side upper_side

-- the letter that an arc of a path writes: its own on that side, or where that means a class the letter read
abbrev pub written_letter : Setup → List ℕ → List ℕ → Arc → Passed → ℕ
written_letter s upper lower a d = cond (ltb (letter (side_by s) a) first_class) (letter (side_by s) a) (next_letter s.up upper lower d)

-- the letter of the arc that the frame at i tried last
abbrev pub letter_at : Setup → List ℕ → List ℕ → List ℕ → List ℕ → ℕ → ℕ
letter_at s arcs upper lower stack i = written_letter s upper lower (arc_of arcs (pred (look_at stack i).next)) (look_at stack i).datum.0

-- those of the lowest n frames, bottom up
unfoldable pub letters_up_to : Setup → List ℕ → List ℕ → List ℕ → List ℕ → ℕ → List ℕ
letters_up_to s arcs upper lower stack zero = []
letters_up_to s arcs upper lower stack (suc i) = letters_up_to s arcs upper lower stack i ++ letter_in (letter_at s arcs upper lower stack i)

-- each of the lowest n frames is on the stack and has tried an arc whose letter is a byte
pub record Tried (s : Setup) (arcs upper lower stack : List ℕ) (n : ℕ) : Type 0 where
  pub on_stack : n ≤ frames_in stack
  pub tried-one : (i : ℕ) → i < n → (0 < (look_at stack i).next) × ((look_at stack i).next ≤ arc_count arcs) × (letter_at s arcs upper lower stack i < 256)

-- the output of the lowest n frames: no side is written where both are read
abbrev pub letters_by : Setup → List ℕ → List ℕ → List ℕ → List ℕ → ℕ → List ℕ
letters_by s arcs upper lower stack n = cond (s.up && s.low) [] (letters_up_to s arcs upper lower stack n)
