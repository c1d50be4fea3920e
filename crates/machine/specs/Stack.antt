-- The stack: a list of cells, five a frame (state, next arc, upper passed, lower passed, sum of penalties).
use Rattle.std.specs.Prelude.{ℕ, ◌+◌, ◌*◌, ◌/◌, min, List, length, get_or, set}
use Rattle.machine.specs.Frames.{Frame, Store}
use Rattle.machine.specs.Transducer.{Passed}

-- the cells of a frame
abbrev pub frame_width : ℕ
frame_width = 5

-- "At most 33,024 frames of a stack are used (129 × 256)."
abbrev pub most_frames : ℕ
most_frames = 33024

-- how many frames a stack has
abbrev pub frames_in : List ℕ → ℕ
frames_in c = length c / frame_width

-- how many of them can be used
abbrev pub room_in : List ℕ → ℕ
room_in c = min (frames_in c) most_frames

-- the frame at i
abbrev pub look_at : List ℕ → ℕ → Frame (Passed × ℕ)
look_at c i =
    record {
      state = get_or c (i * frame_width) 0;
      next = get_or c (i * frame_width + 1) 0;
      datum = (record { up = get_or c (i * frame_width + 2) 0; low = get_or c (i * frame_width + 3) 0 }, get_or c (i * frame_width + 4) 0);
    }

-- a frame put at i
abbrev pub put_at : List ℕ → ℕ → Frame (Passed × ℕ) → List ℕ
put_at c i f =
    set (set (set (set (set c (i * frame_width) f.state) (i * frame_width + 1) f.next) (i * frame_width + 2) f.datum.0.up) (i * frame_width + 3) f.datum.0.low)
    (i * frame_width + 4) f.datum.1

-- the stack as a store of frames
abbrev pub store : Store (Frame (Passed × ℕ))
store = record { Cells = List ℕ; room = room_in; look = look_at; put = put_at }
