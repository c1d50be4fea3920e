-- Document 01, "One step": frames, where they are held, and refusal 21, which tells what is a place in a search.
use Rattle.std.specs.Prelude.{ℕ, zero, suc, pred, ◌+◌, ◌-◌, Bool, true, ◌&&◌, length, get_or, eqb, ltb, leb}
use mathlib.Core.List.{List, [], ◌∷◌, tail}
use Rattle.machine.specs.Machine.{Machine, Path, start, more, tested}

-- "A frame holds a state, the number of the next arc to try (..), and how many letters were passed", with the sum of penalties (the datum)
pub record Frame (D : Type 0) : Type 0 where
  pub state : ℕ
  pub next : ℕ
  pub datum : D

-- where frames are held: how many of them are used at most, one looked at, one put
pub record Store (F : Type 0) : Type 1 where
  pub Cells : Type 0
  pub room : Cells → ℕ
  pub look : Cells → ℕ → F
  pub put : Cells → ℕ → F → Cells

-- "the initial states started so far, and the frames in use (depth)", with the cells that are lent
pub record Held (C : Type 0) : Type 0 where
  pub started : ℕ
  pub depth : ℕ
  pub cells : C

-- "The used frames are the first depth cells of a stack", the top one first
abbrev pub frames_of : {F : Type 0} (S : Store F) → S.Cells → ℕ → List F
frames_of S c zero = []
frames_of S c (suc d) = S.look c d ∷ frames_of S c d

-- the path of a frame that is pushed on fs, where n initial states are started: each frame's last tried arc
abbrev pub walk_to : {D : Type 0} → ℕ → List (Frame D) → Path
walk_to n [] = start (pred n)
walk_to n (f ∷ fs) = more (walk_to n fs) (pred f.next)

-- the path of the top frame: that of a frame on those below it
abbrev pub walk_of : {D : Type 0} → ℕ → List (Frame D) → Path
walk_of n fs = walk_to n (tail fs)

module _ (M : Machine) where
  -- the used frames of a run
  abbrev pub view_of : (S : Store (Frame M.D)) → Held S.Cells → List (Frame M.D)
  view_of S h = frames_of S h.cells h.depth

  -- the path that it stands at
  abbrev pub path_of : (S : Store (Frame M.D)) → Held S.Cells → Path
  path_of S h = walk_of h.started (view_of S h)

  -- the frame of a state with its first arc next
  abbrev pub entering : ℕ → M.D → Frame M.D
  entering s d = record { state = s; next = M.first s; datum = d }

  -- how many arcs of its state are untried
  abbrev pub untried : Frame M.D → ℕ
  untried f = (M.first f.state + M.arity f.state) - f.next

  -- Refusal 21, each part as what holds where it is not given.

  -- "a bottom frame that is not the last started state with nothing passed"
  abbrev pub bottom_holds : ℕ → Frame M.D → Bool
  bottom_holds n f = eqb f.state (get_or M.initials (pred n) 0) && M.same M.d₀ f.datum

  -- "a next arc outside its state's arcs (one past the last is allowed)"
  abbrev pub next_holds : Frame M.D → Bool
  next_holds f = leb (M.first f.state) f.next && leb f.next (M.first f.state + M.arity f.state)

  -- "a frame that is not what the arc just tried below it makes by fitting"; g is the frame below
  abbrev pub link_holds : Frame M.D → Frame M.D → Bool
  link_holds g f =
      ltb (M.first g.state) g.next
      && (eqb f.state (M.target (pred g.next)) && tested (M.follow (pred g.next) g.datum) (λ d. M.same d f.datum))

  -- the top frame f and the frames fs below it
  abbrev pub chain_holds : ℕ → List (Frame M.D) → Frame M.D → Bool
  chain_holds n [] f = next_holds f && bottom_holds n f
  chain_holds n (g ∷ fs) f = next_holds f && (link_holds g f && chain_holds n fs g)

  -- "depth above 0 with no start", then the frames
  abbrev pub frames_hold : ℕ → List (Frame M.D) → Bool
  frames_hold n [] = true
  frames_hold n (f ∷ fs) = ltb 0 n && chain_holds n fs f

  -- "starts over the list, depth over the stack or over 33,024" (the store's room), then the rest
  unfoldable pub place_holds : (S : Store (Frame M.D)) → Held S.Cells → Bool
  place_holds S h = leb h.started (length M.initials) && (leb h.depth (S.room h.cells) && frames_hold h.started (view_of S h))
