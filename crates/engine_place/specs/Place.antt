-- Refusal 21, each part as the code tests it on the frames that it looked at.
use Rattle.std.specs.Prelude.{ℕ, ◌+◌, ◌-◌, ◌≤◌, ◌<◌, ◌≡◌, Bool, true, false, ◌&&◌, List, [], ◌∷◌, eqb, ltb, leb, length, get_or}
use Rattle.table_format.specs.Table.{Arc}
use Rattle.table_format.specs.Classes.{first_class}
use Rattle.table_format.specs.Cells.{arc_count, arc_of}
use Rattle.machine.specs.Query.{Side}
use Rattle.machine.specs.Machine.{tested}
use Rattle.machine.specs.Transducer.{passed}
use Rattle.machine.specs.Frames.{frames_of, chain_holds}
use Rattle.machine.specs.Stack.{most_frames, look_at, store}
use Rattle.engine_frames.specs.declared.Setup.{Setup}
use Rattle.engine_frames.specs.declared.Setting.{Setting}
use Rattle.engine_frames.specs.declared.Frame.{Frame}
use Rattle.engine_frames.specs.Frames.{frame_of}
use Rattle.engine_frames.specs.Sides.{passed_in, follow_by, class_fits}
use Rattle.engine_step.specs.Setting.{machine_by, Prepared}

-- a next arc inside its state's arcs
abbrev pub next_by : List ℕ → ℕ → ℕ → Bool
next_by first state next = leb (get_or first state 0) next && leb next (get_or first (state + 1) 0)

-- the last started state with nothing passed and no penalty
abbrev pub bottom_by : List ℕ → ℕ → Frame → Bool
bottom_by initials n f = eqb f.state (get_or initials (n - 1) 0) && ((eqb 0 f.passed.up && eqb 0 f.passed.low) && eqb 0 f.sum)

-- the sum of f is that of g with an arc's penalty added
abbrev pub sum_by : Arc → Frame → Frame → Bool
sum_by a g f = eqb (g.sum + a.penalty) f.sum

-- what the arc just tried in g, whose state's arcs begin at n, makes by the rules of the sides, whatever the ceiling
abbrev pub link_by : Setup → ℕ → List ℕ → List ℕ → List ℕ → Frame → Frame → Bool
link_by s n arcs upper lower g f =
    ltb n g.next
    && (eqb f.state (arc_of arcs (g.next - 1)).target
    && tested (follow_by s upper lower (arc_of arcs (g.next - 1)) (passed_in g.passed))
    (λ d. (eqb d.up f.passed.up && eqb d.low f.passed.low) && sum_by (arc_of arcs (g.next - 1)) g f))

-- what it makes by its class
abbrev pub class_link_by : Setup → List (List ℕ) → List ℕ → List ℕ → List ℕ → List ℕ → Frame → Frame → Bool
class_link_by s classes first arcs upper lower g f =
    let a = arc_of arcs (g.next - 1) in
    ltb (get_or first g.state 0) g.next
    && (leb first_class a.upper
    && (class_fits s classes a.upper (get_or upper g.passed.up 0) (get_or lower g.passed.low 0)
    && (eqb f.state a.target && ((eqb (g.passed.up + 1) f.passed.up && eqb (g.passed.low + 1) f.passed.low) && sum_by a g f))))

-- what a test of a link may rely on in the lower frame
pub record Linkable (arcs : List ℕ) (g : Frame) : Type 0 where
  pub next-most : g.next ≤ arc_count arcs
  pub counts-small : (side : Side) → passed (passed_in g.passed) side ≤ most_frames

-- the frame at i is what the arc just tried below it makes by the rules of the sides, and its next arc is its state's
abbrev pub linked_at : Setup → List ℕ → List ℕ → List ℕ → List ℕ → List ℕ → ℕ → Bool
linked_at s first arcs upper lower stack i =
    link_by s (get_or first (look_at stack (i - 1)).state 0) arcs upper lower (frame_of (look_at stack (i - 1))) (frame_of (look_at stack i)) && next_by first (look_at stack i).state (look_at stack i).next

-- what a search goes by is prepared, whatever the terminal states: a place has none to look at
abbrev pub IsPreparedBut : Setting → Type 0
IsPreparedBut s = (terminals : List ℕ) × Prepared s.setup s.classes.now s.first.now s.initials.now terminals s.arcs.now s.upper.now s.lower.now

-- a number that no cell is above
unfoldable pub bound_of : List ℕ → ℕ
bound_of [] = 0
bound_of (x ∷ cells) = x + bound_of cells

-- the same setup with a ceiling that no cell is above: under it the sums of frames are only added up
abbrev pub unlimited : Setup → List ℕ → Setup
unlimited s stack = record { states = s.states; up = s.up; low = s.low; ceiling = s.ceiling + bound_of stack }

-- the frames below i, of which there are some, hold in a search, whatever the ceiling
pub record Standing (s : Setup) (first arcs upper lower stack : List ℕ) (i : ℕ) : Type 0 where
  pub classes : List (List ℕ)
  pub initials : List ℕ
  pub terminals : List ℕ
  pub started : ℕ
  pub prepared : Prepared s classes first initials terminals arcs upper lower
  pub some-started : 0 < started
  pub few-started : started ≤ length initials
  pub some_below : 0 < i
  pub below-hold : chain_holds (machine_by (unlimited s stack) classes initials terminals arcs upper lower) started (frames_of store stack (i - 1)) (look_at stack (i - 1)) ≡ true

-- r is the first frame, from one on and below the depth, that is not so linked, or the depth
pub record FirstUnlinked (s : Setup) (first arcs upper lower stack : List ℕ) (start depth r : ℕ) : Type 0 where
  pub on : start ≤ r
  pub within : r ≤ depth
  pub linked : (j : ℕ) → start ≤ j → j < r → linked_at s first arcs upper lower stack j ≡ true
  pub unlinked : r < depth → linked_at s first arcs upper lower stack r ≡ false
