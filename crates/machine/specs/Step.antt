-- Document 01, "One step": what a step does, and the refusals in it.
use Rattle.std.specs.Prelude.{ℕ, zero, suc, pred, ◌-◌, Bool, true, false, List, [], ◌∷◌, length, get_or, ltb}
use Rattle.std.proofs.Math.Option.{Option, none, some}
use Rattle.refusal.specs.declared.Refusal.{Refusal}
use Rattle.refusal.specs.declared.Refusal.TheVariants.{State}
use Rattle.refusal.specs.declared.StateCause.TheVariants.{StackFull, OutputFull}
use Rattle.machine.specs.Machine.{Machine, accepts, output}
use Rattle.machine.specs.Frames.{Frame, Store, Held, view_of, path_of, entering, untried}

-- what a step is to do: the end, a frame dropped, an initial state's frame pushed, an arc tried that does not fit, and one that does
pub data Move (F : Type 0) : Type 0 where
  over drops : Move F
  begins skips : F → Move F
  pushes : F → F → Move F

-- what comes of it; finds has the output
pub data Stepped (C : Type 0) : Type 0 where
  ends : Stepped C
  moves : Held C → Stepped C
  finds : Held C → List ℕ → Stepped C
  refuses : Refusal → Stepped C

-- "count it as tried"
abbrev pub tried_of : {D : Type 0} → Frame D → Frame D
tried_of f = record { state = f.state; next = suc f.next; datum = f.datum }

module _ (M : Machine) where
  -- "if it fits push the frame of its target"
  abbrev pub try_arc : Frame M.D → Option M.D → Move (Frame M.D)
  try_arc f none = skips (tried_of f)
  try_arc f (some d) = pushes (tried_of f) (entering M (M.target f.next) d)

  -- "the top frame has an untried arc"; "the top frame has no untried arc: drop it"
  abbrev pub move_top : Frame M.D → ℕ → Move (Frame M.D)
  move_top f zero = drops
  move_top f (suc k) = try_arc f (M.follow f.next f.datum)

  -- "depth 0 and an initial state left: start it"; "Depth 0 with no initial state left is the end."
  abbrev pub move_start : ℕ → ℕ → Move (Frame M.D)
  move_start n zero = over
  move_start n (suc k) = begins (entering M (get_or M.initials n 0) M.d₀)

  -- "One step is one of these", by the count of initial states started and the used frames
  abbrev pub move_by : ℕ → List (Frame M.D) → Move (Frame M.D)
  move_by n [] = move_start n (length M.initials - n)
  move_by n (f ∷ fs) = move_top f (untried M f)

  module _ (S : Store (Frame M.D)) where
    -- the move of a run
    unfoldable pub move : Held S.Cells → Move (Frame M.D)
    move h = move_by h.started (view_of M S h)

    -- the run and its cells after a move; a dropped frame's cells are left as they are
    abbrev pub effect : Move (Frame M.D) → Held S.Cells → Held S.Cells
    effect over h = h
    effect drops h = record { started = h.started; depth = pred h.depth; cells = h.cells }
    effect (begins g) h = record { started = suc h.started; depth = 1; cells = S.put h.cells 0 g }
    effect (skips f) h = record { started = h.started; depth = h.depth; cells = S.put h.cells (pred h.depth) f }
    effect (pushes f g) h =
        record {
          started = h.started;
          depth = suc h.depth;
          cells = S.put (S.put h.cells (pred h.depth) f) h.depth g;
        }

    -- 23: "A push would accept and its output is longer than the buffer", of l letters
    abbrev pub offered : Bool → List ℕ → Held S.Cells → Stepped S.Cells
    offered true o d = refuses (State OutputFull)
    offered false o d = finds d o

    -- "until a push makes an accepting path"
    abbrev pub arrived : Bool → ℕ → Held S.Cells → Stepped S.Cells
    arrived false l d = moves d
    arrived true l d = offered (ltb l (length (output M (path_of M S d)))) (output M (path_of M S d)) d

    -- 22: "A push finds depth at 33,024 or at the stack's length"
    abbrev pub pushed : Bool → ℕ → Held S.Cells → Stepped S.Cells
    pushed false l d = refuses (State StackFull)
    pushed true l d = arrived (accepts M (path_of M S d)) l d

    -- a move with its refusals
    abbrev pub made : ℕ → Held S.Cells → Move (Frame M.D) → Stepped S.Cells
    made l h over = ends
    made l h drops = moves (effect drops h)
    made l h (begins g) = pushed (ltb h.depth (S.room h.cells)) l (effect (begins g) h)
    made l h (skips f) = moves (effect (skips f) h)
    made l h (pushes f g) = pushed (ltb h.depth (S.room h.cells)) l (effect (pushes f g) h)

    -- one step, with an output buffer of l letters
    unfoldable pub step : ℕ → Held S.Cells → Stepped S.Cells
    step l h = made l h (move h)
