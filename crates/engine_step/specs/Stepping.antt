-- What the code of a step answers, in the terms of the machine's step.
use Rattle.std.specs.Prelude.{ℕ, suc, ◌+◌, ◌≡◌, List, ◌++◌, length, drop}
use Rattle.std.specs.Prelude.{Result, Ok, Err}
use Rattle.std.proofs.Math.Option.{Option, none, some}
use Rattle.refusal.specs.declared.StateCause.{StateCause}
use Rattle.refusal.specs.declared.Refusal.{Refusal}
use Rattle.refusal.specs.declared.Refusal.TheVariants.{Input, State}
use Rattle.table_format.specs.Table.{Arc, Table}
use Rattle.machine.specs.declared.Run.{Run}
use Rattle.machine.specs.Query.{Query}
use Rattle.machine.specs.Frames as F
use Rattle.machine.specs.Frames.{Held, entering}
use Rattle.machine.specs.Step as S
use Rattle.machine.specs.Step.{Stepped, ends, moves, finds, refuses}
use Rattle.machine.specs.Transducer.{Passed, machine}
use Rattle.machine.specs.Reading.{moved_to}
use Rattle.engine_frames.specs.Sides.{passed_in, summed}
use Rattle.engine_push.specs.declared.NewFrame.{NewFrame}
use Rattle.engine_push.specs.Pushing.{entered_at}
use Rattle.engine_step.specs.declared.Move.{Move}
use Rattle.engine_step.specs.declared.Move.TheVariants.{Drops, Skips, Pushes}
use Rattle.engine_step.specs.declared.Turn.{Turn}
use Rattle.engine_step.specs.declared.Turn.TheVariants.{Moved, Finds}
use Rattle.engine_step.specs.Setting.{held}

-- a frame to push, after which n initial states are started and d frames are used
abbrev pub new_frame_of : ℕ → ℕ → F.Frame (Passed × ℕ) → NewFrame
new_frame_of n d g = record { started = n; depth = d; state = g.state; passed = record { up = g.datum.0.up; low = g.datum.0.low }; sum = g.datum.1 }

-- the push of a frame with a sum, if there is one
abbrev pub push_if : ℕ → ℕ → ℕ → Passed → Option ℕ → Move
push_if n d s p none = Skips
push_if n d s p (some r) = Pushes (record { started = n; depth = d; state = s; passed = record { up = p.up; low = p.low }; sum = r })

-- the push along an arc that fits by its letters, where n initial states are started and d frames are used, if the sum stays within the ceiling
abbrev pub push_along : ℕ → ℕ → ℕ → Arc → Passed → ℕ → Move
push_along n d ceiling a p sum = push_if n (suc d) a.target p (summed ceiling sum a.penalty)

-- the machine's move as the code tells it, where n initial states are started and d frames are used; the end is not told here
abbrev pub move_as : ℕ → ℕ → S.Move (F.Frame (Passed × ℕ)) → Move
move_as n d S.over = Drops
move_as n d S.drops = Drops
move_as n d (S.begins g) = Pushes (new_frame_of (n + 1) (suc d) g)
move_as n d (S.skips f) = Skips
move_as n d (S.pushes f g) = Pushes (new_frame_of n (suc d) g)

-- the run after the push of a frame onto d frames
abbrev pub after_push : Table → Query → ℕ → List ℕ → NewFrame → Held (List ℕ)
after_push t q d c e = held e.started (suc d) (entered_at c d (entering (machine t q) e.state (passed_in e.passed, e.sum)))

-- a refusal in a step is a state's
abbrev pub TurnRefuses : Refusal → Result Turn StateCause → Type 0
TurnRefuses (Input cause) r = ⊥
TurnRefuses (State cause) r = r ≡ Err cause

-- what a step answers, and the cells and the output that it leaves, where they were c and b before it
abbrev pub TurnIs : Run → Stepped (List ℕ) → List ℕ → List ℕ → Result Turn StateCause → List ℕ → List ℕ → Type 0
TurnIs run ends c b r e o = ⊥
TurnIs run (moves d) c b r e o = (r ≡ Ok (Moved (moved_to run d.started d.depth))) × (e ≡ d.cells) × (o ≡ b)
TurnIs run (finds d w) c b r e o = (r ≡ Ok (Finds (moved_to run d.started d.depth) (length w))) × (e ≡ d.cells) × (o ≡ w ++ drop (length w) b)
TurnIs run (refuses x) c b r e o = TurnRefuses x r × (e ≡ c) × (o ≡ b)
