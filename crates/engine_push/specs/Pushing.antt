-- What the code of a push answers, and the cells and the output that it leaves.
use Rattle.std.specs.Prelude.{ℕ, zero, suc, ◌<◌, ◌≤◌, ◌≡◌, Bool, true, false, cond, ◌&&◌, ◌||◌, List, ◌++◌, ltb, length, get_or, drop}
use Rattle.std.specs.Prelude.{Option, Some, None, Result, Ok, Err}
use Rattle.refusal.specs.declared.StateCause.{StateCause}
use Rattle.refusal.specs.declared.StateCause.TheVariants.{StackFull, OutputFull}
use Rattle.machine.specs.Frames as F
use Rattle.machine.specs.Step.{tried_of}
use Rattle.machine.specs.Transducer.{Passed, member}
use Rattle.machine.specs.Stack.{frames_in, room_in, look_at, put_at}
use Rattle.engine_frames.specs.declared.Setup.{Setup}
use Rattle.engine_frames.specs.Frames.{frame_by}
use Rattle.engine_frames.specs.Sides.{passed_in, done_by, written_of}
use Rattle.engine_frames.specs.Output.{Tried, letters_by}
use Rattle.engine_push.specs.declared.NewFrame.{NewFrame}

-- its frame, where n is the next arc
abbrev pub frame_in : NewFrame → ℕ → F.Frame (Passed × ℕ)
frame_in e n = frame_by e.state n e.passed.up e.passed.low e.sum

-- what a push meets: a refusal, or room, with the length of the output where the new path accepts
abbrev pub Verdict : Type 0
Verdict = Result (Option ℕ) StateCause

-- 22, then acceptance, then 23, where the buffer has l letters and the output n
abbrev pub verdict_of : Bool → Bool → ℕ → ℕ → Verdict
verdict_of false a l n = Err StackFull
verdict_of true false l n = Ok None
verdict_of true true l n = cond (ltb l n) (Err OutputFull) (Ok (Some n))

-- what the push of a frame onto d frames meets, where the buffer has l letters
abbrev pub verdict_by : Setup → List ℕ → List ℕ → List ℕ → ℕ → NewFrame → List ℕ → ℕ → Verdict
verdict_by s terminals upper lower d e c l =
    verdict_of (ltb d (room_in c)) (member e.state terminals && done_by s upper lower (passed_in e.passed)) l (written_of s (passed_in e.passed))

-- the cells with an arc counted as tried in the top one of d frames, if there is one
abbrev pub tried_below : List ℕ → ℕ → List ℕ
tried_below c zero = c
tried_below c (suc d) = put_at c d (tried_of (look_at c d))

-- the cells after a push onto d frames: that, and the new frame
abbrev pub entered_at : List ℕ → ℕ → F.Frame (Passed × ℕ) → List ℕ
entered_at c d f = put_at (tried_below c d) d f

-- the cells after it; "every lent buffer holds what it held before the refused step"
abbrev pub pushed_cells : Verdict → List ℕ → ℕ → F.Frame (Passed × ℕ) → List ℕ
pushed_cells (Err cause) c d f = c
pushed_cells (Ok None) c d f = entered_at c d f
pushed_cells (Ok (Some n)) c d f = entered_at c d f

-- the output after it, from the cells e that it left and the d frames below the new one: "only Found writes output"
abbrev pub pushed_output : Verdict → Setup → List ℕ → List ℕ → List ℕ → List ℕ → ℕ → List ℕ → List ℕ
pushed_output (Err cause) s arcs upper lower e d b = b
pushed_output (Ok None) s arcs upper lower e d b = b
pushed_output (Ok (Some n)) s arcs upper lower e d b = letters_by s arcs upper lower e d ++ drop (length (letters_by s arcs upper lower e d)) b

-- what the push of a frame onto d frames may rely on where it finds room, and where its path accepts
pub record Pushable (s : Setup) (first terminals arcs upper lower : List ℕ) (d : ℕ) (e : NewFrame) (c b : List ℕ) : Type 0 where
  pub reads-some : (s.up || s.low) ≡ true
  pub on_stack : d ≤ frames_in c
  pub indexes : d < room_in c → e.state < length first
  pub counts : (j : ℕ) → d ≡ suc j → (look_at c j).next ≤ 1024
  pub writes : (m : ℕ) → Ok (Some m) ≡ verdict_by s terminals upper lower d e c (length b) → (g : List ℕ) → g ≡ entered_at c d (frame_in e (get_or first e.state 0))
      → Tried s arcs upper lower g d × ((m ≡ length (letters_by s arcs upper lower g d)) × (m ≤ length b))
