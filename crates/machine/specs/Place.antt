-- A place in a search, as the runs that steps come to have it: what refusal 21 lets pass, and nothing else (`twenty_one`).
use Rattle.std.specs.Prelude.{ℕ, ◌+◌, ◌<◌, ◌≤◌, ◌≡◌, List, [], ◌∷◌, length}
use Rattle.std.proofs.Math.Option.{some}
use Rattle.table_format.specs.Table.{Table}
use Rattle.machine.specs.declared.Run.{Run}
use Rattle.machine.specs.Query.{Query}
use Rattle.machine.specs.Machine.{Machine, final, datum, Allowed}
use Rattle.machine.specs.Frames.{Frame, Store, Held, frames_of, walk_to, view_of}
use Rattle.machine.specs.Transducer.{machine}
use Rattle.machine.specs.Stack.{most_frames, frames_in, store}

module _ (M : Machine) where
  -- what stands below a frame: nothing, and an initial state is started (no "depth above 0 with no start"); or a frame that has tried an arc
  abbrev pub Linked : ℕ → List (Frame M.D) → Type 0
  Linked n [] = 0 < n
  Linked n (g ∷ fs) = M.first g.state < g.next

  -- the frames, top first, are a place in a search with n initial states started, no more than are listed (no "starts over the list"): each
  -- frame has the last state and the datum of its path, which the words allow, and a next arc inside its state's arcs ("one past the last is
  -- allowed"). The bottom frame's path is that of no arcs from the last started state ("the last started state with nothing passed"); another's
  -- is the path of the frame below with the arc just tried there ("what the arc just tried below it makes by fitting").
  abbrev pub Placed : ℕ → List (Frame M.D) → Type 0
  Placed n [] = n ≤ length M.initials
  Placed n (f ∷ fs) =
      record {
        state-is : f.state ≡ final M (walk_to n fs);
        datum-is : datum M (walk_to n fs) ≡ some f.datum;
        allowed : Allowed M (walk_to n fs);
        low : M.first f.state ≤ f.next;
        high : f.next ≤ M.first f.state + M.arity f.state;
        link : Linked n fs;
        below : Placed n fs;
      }

  -- a run with its cells at such a place, where the store has room for N frames
  pub record Good (S : Store (Frame M.D)) (N : ℕ) (h : Held S.Cells) : Type 0 where
    pub placed : Placed h.started (view_of M S h)
    pub deep : h.depth ≤ N
    pub room : S.room h.cells ≡ N

-- 21: "The run or its used frames are not a place in a search"; what holds where they are, for any run and stack
pub record InSearch (t : Table) (q : Query) (run : Run) (stack : List ℕ) : Type 0 where
  -- no "depth over the stack or over 33,024"
  pub in_stack : run.depth ≤ frames_in stack
  pub in_limit : run.depth ≤ most_frames
  -- all else, of the used frames: "the first depth cells of a stack"
  pub placed : Placed (machine t q) run.started (frames_of store stack run.depth)
