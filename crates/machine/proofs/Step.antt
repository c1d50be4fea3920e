-- A step on frames: it leads from a place in a search to a place in a search, and takes exactly the first entry of the rest of the tour.
use Prim.Native.Nat.{ℕ, zero, suc, ◌+◌, ◌-◌, ◌≤◌, ◌<◌}
use native.Mathlib.Omega.{arith}
use mathlib.Core.Path.{◌≡◌, refl, ◌∙◌}
use mathlib.Core.Option.{Option, none, some}
use mathlib.Core.List.{List, [], ◌∷◌, ◌++◌, append_assoc, cons≢nil, tail}
use lib.ListN.{length, get_or}
use Rattle.machine.specs.Machine.{Machine, Path, start, more, datum, Allowed}
use Rattle.machine.specs.Tour.{Entry, trail, branch, tour_from}
use Rattle.machine.specs.Frames.{Frame, walk_to, untried}
use Rattle.machine.specs.Step.{Move, over, drops, begins, skips, pushes, tried_of, try_arc, move_top, move_start, move_by}
use Rattle.machine.specs.Place.{Placed}
use Rattle.machine.proofs.Tour.{Unrolls}

-- the count of initial states started and the frames after a move, where fs are the frames below the top one
abbrev pub started_by : {F : Type 0} → ℕ → Move F → ℕ
started_by n over = n
started_by n drops = n
started_by n (begins f) = suc n
started_by n (skips f) = n
started_by n (pushes f g) = n

abbrev pub frames_by : {F : Type 0} → List F → Move F → List F
frames_by fs over = fs
frames_by fs drops = fs
frames_by fs (begins f) = f ∷ []
frames_by fs (skips f) = f ∷ fs
frames_by fs (pushes f g) = g ∷ f ∷ fs

-- the entry that a move takes
abbrev pub entry_by : {D : Type 0} → ℕ → List (Frame D) → Move (Frame D) → Entry
entry_by n fs over = none
entry_by n fs drops = none
entry_by n fs (begins f) = some (start n)
entry_by n fs (skips f) = none
entry_by n fs (pushes f g) = some (walk_to n (f ∷ fs))

abbrev pub Open : List Entry → Type 0
Open es = es ≡ [] → ⊥

module _ (M : Machine) where
  datum_law : (n : ℕ) (f : Frame M.D) (fs : List (Frame M.D)) → Placed M n (f ∷ fs) → datum M (more (walk_to n fs) f.next) ≡ M.follow f.next f.datum
  datum_law n f fs P = rw P.datum-is

  module _ (n : ℕ) (f : Frame M.D) (fs : List (Frame M.D)) (P : Placed M n (f ∷ fs)) (k : ℕ) (e : untried M f ≡ suc k) where
    tried-placed : Placed M n (tried_of f ∷ fs)
    tried-placed = record { state-is = P.state-is; datum-is = P.datum-is; allowed = P.allowed; low = omega (arith, P.low); high = omega arith; link = P.link; below = P.below }

    push_allowed : (d : M.D) → M.follow f.next f.datum ≡ some d → Allowed M (more (walk_to n fs) f.next)
    push_allowed d v = (P.allowed, rw (← P.state-is) (P.low, omega arith), (d, datum_law n f fs P ∙ v))

    try_placed : (o : Option M.D) → M.follow f.next f.datum ≡ o → Placed M (started_by n (try_arc M f o)) (frames_by fs (try_arc M f o))
    try_placed none v = tried-placed
    try_placed (some d) v =
        record {
          state-is = refl;
          datum-is = datum_law n f fs P ∙ v;
          allowed = push_allowed d v;
          low = omega arith;
          high = omega arith;
          link = omega (arith, P.low);
          below = tried-placed;
        }

  top_placed : (n : ℕ) (f : Frame M.D) (fs : List (Frame M.D)) → Placed M n (f ∷ fs) → (k : ℕ) → untried M f ≡ k → Placed M (started_by n (move_top M f k)) (frames_by fs (move_top M f k))
  top_placed n f fs P zero e = P.below
  top_placed n f fs P (suc k) e = try_placed n f fs P k e (M.follow f.next f.datum) refl

  start-placed : (n k : ℕ) → n ≤ length M.initials → length M.initials - n ≡ k → Placed M (started_by n (move_start M n k)) (frames_by [] (move_start M n k))
  start-placed n zero h e = h
  start-placed n (suc k) h e =
      record { state-is = refl; datum-is = refl; allowed = omega arith; low = omega arith; high = omega arith; link = omega arith; below = omega arith }

  -- a step leads to a place in a search
  pub move-placed : (n : ℕ) (fs : List (Frame M.D)) → Placed M n fs → Placed M (started_by n (move_by M n fs)) (frames_by (tail fs) (move_by M n fs))
  move-placed n [] P = start-placed n (length M.initials - n) P refl
  move-placed n (f ∷ fs) P = top_placed n f fs P (untried M f) refl

  module _ (g : Path → List Entry) where
    -- the entries still to come
    abbrev pub rest_by : ℕ → List (Frame M.D) → List Entry
    rest_by n [] = tour_from M g n (length M.initials - n)
    rest_by n (f ∷ fs) = trail M g (walk_to n fs) f.next (untried M f) ++ rest_by n fs

    -- a move takes the first of the entries es
    abbrev pub StepLaw : List Entry → ℕ → List (Frame M.D) → Move (Frame M.D) → Type 0
    StepLaw es n fs over = es ≡ []
    StepLaw es n fs drops = es ≡ entry_by n fs drops ∷ rest_by n fs
    StepLaw es n fs (begins f) = es ≡ entry_by n fs (begins f) ∷ rest_by (suc n) (f ∷ [])
    StepLaw es n fs (skips f) = es ≡ entry_by n fs (skips f) ∷ rest_by n (f ∷ fs)
    StepLaw es n fs (pushes f h) = es ≡ entry_by n fs (pushes f h) ∷ rest_by n (h ∷ f ∷ fs)

    -- what follows a path is never nothing
    pub trail_open : (p : Path) (n k : ℕ) (r : List Entry) → Open (trail M g p n k ++ r)
    trail_open p n zero r = λ e. cons≢nil e
    trail_open p n (suc k) r = go (datum M (more p n))
      where
        go : (o : Option M.D) → Open (branch o g (more p n) (trail M g p (suc n) k) ++ r)
        go none = λ e. cons≢nil e
        go (some d) = λ e. cons≢nil e

    module _ (unrolls : Unrolls M g) where
      start_law : (n k : ℕ) → n ≤ length M.initials → length M.initials - n ≡ k → StepLaw (rest_by n []) n [] (move_start M n k)
      start_law n zero h e = rw e
      start_law n (suc k) h e = rw (e, less, unrolls (start n) inside, whole)
        where
          inside : n < length M.initials
          inside = omega arith

          less : length M.initials - suc n ≡ k
          less = omega arith

          whole : (M.first (get_or M.initials n 0) + M.arity (get_or M.initials n 0)) - M.first (get_or M.initials n 0) ≡ M.arity (get_or M.initials n 0)
          whole = omega arith

      module _ (n : ℕ) (f : Frame M.D) (fs : List (Frame M.D)) (P : Placed M n (f ∷ fs)) (k : ℕ) (e : untried M f ≡ suc k) where
        less : untried M (tried_of f) ≡ k
        less = omega arith

        try_law : (o : Option M.D) → M.follow f.next f.datum ≡ o → StepLaw (rest_by n (f ∷ fs)) n fs (try_arc M f o)
        try_law none v = rw (e, datum_law n f fs P, v, less)
        try_law (some d) v = rw (e, datum_law n f fs P, v, less, append_assoc, unrolls (more (walk_to n fs) f.next) (push_allowed n f fs P k e d v), whole)
          where
            whole : (M.first (M.target f.next) + M.arity (M.target f.next)) - M.first (M.target f.next) ≡ M.arity (M.target f.next)
            whole = omega arith

      top_law : (n : ℕ) (f : Frame M.D) (fs : List (Frame M.D)) → Placed M n (f ∷ fs) → (k : ℕ) → untried M f ≡ k → StepLaw (rest_by n (f ∷ fs)) n fs (move_top M f k)
      top_law n f fs P zero e = rw e
      top_law n f fs P (suc k) e = try_law n f fs P k e (M.follow f.next f.datum) refl

      -- a step takes exactly the first entry of the rest
      pub step_law : (n : ℕ) (fs : List (Frame M.D)) → Placed M n fs → StepLaw (rest_by n fs) n (tail fs) (move_by M n fs)
      step_law n [] P = start_law n (length M.initials - n) P refl
      step_law n (f ∷ fs) P = top_law n f fs P (untried M f) refl
