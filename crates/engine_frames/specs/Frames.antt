-- A frame of the code and a frame of the machine.
use Rattle.std.specs.Prelude.{ℕ}
use Rattle.machine.specs.Frames as M
use Rattle.machine.specs.Transducer.{Passed}
use Rattle.engine_frames.specs.declared.Frame.{Frame}

-- a frame as the code holds it
abbrev pub frame_of : M.Frame (Passed × ℕ) → Frame
frame_of f = record { state = f.state; next = f.next; passed = record { up = f.datum.0.up; low = f.datum.0.low }; sum = f.datum.1 }

-- and back
abbrev pub frame_as : Frame → M.Frame (Passed × ℕ)
frame_as f = record { state = f.state; next = f.next; datum = (record { up = f.passed.up; low = f.passed.low }, f.sum) }

-- a frame by its numbers
abbrev pub frame_by : ℕ → ℕ → ℕ → ℕ → ℕ → M.Frame (Passed × ℕ)
frame_by s n u l p = record { state = s; next = n; datum = (record { up = u; low = l }, p) }
