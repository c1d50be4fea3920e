-- A step on the cells of a store: it keeps the place in a search and the room, for any machine and any store.
use Prim.Native.Nat.{ℕ, zero, suc, pred, ◌-◌, ◌≤◌, ◌<◌}
use native.Mathlib.Omega.{arith}
use mathlib.Core.Path.{◌≡◌, refl, sym, ap, subst, ◌∙◌}
use mathlib.Core.Bool.{Bool, true, false}
use mathlib.Core.Option.{Option, none, some}
use mathlib.Core.List.{List, ◌∷◌, tail}
use lib.ListN.{length}
use lib.Dec.{ltb}
use borrow.Author.Tests.{ltb-true, ltb-false}
use Rattle.refusal.specs.declared.Refusal.TheVariants.{State}
use Rattle.refusal.specs.declared.StateCause.TheVariants.{OutputFull}
use Rattle.machine.specs.Machine.{Machine, Path, accepts, output, Allowed}
use Rattle.machine.specs.Frames.{Frame, Store, frames_of, Held, walk_of, view_of, path_of, untried}
use Rattle.machine.specs.Step.{Move, over, drops, begins, skips, pushes, Stepped, ends, moves, finds, refuses, try_arc, move_top, move_start, move_by, move, effect, offered, arrived, pushed, made, step}
use Rattle.machine.proofs.Frames.{StoreLaws, frames-put}
use Rattle.machine.specs.Place.{Placed, Good}
use Rattle.machine.proofs.Step.{started_by, frames_by, move-placed}

-- what a move needs of the room N at depth d
abbrev pub RoomFor : {F : Type 0} → ℕ → ℕ → Move F → Type 0
RoomFor N d over = Unit {0}
RoomFor N d drops = Unit {0}
RoomFor N d (begins f) = d < N
RoomFor N d (skips f) = Unit {0}
RoomFor N d (pushes f g) = d < N

-- the moves at depth 0, and those above
abbrev pub Possible : {F : Type 0} → ℕ → Move F → Type 0
Possible zero over = Unit {0}
Possible zero drops = ⊥
Possible zero (begins f) = Unit {0}
Possible zero (skips f) = ⊥
Possible zero (pushes f e) = ⊥
Possible (suc d) over = ⊥
Possible (suc d) drops = Unit {0}
Possible (suc d) (begins f) = ⊥
Possible (suc d) (skips f) = Unit {0}
Possible (suc d) (pushes f e) = Unit {0}

module _ (M : Machine) (S : Store (Frame M.D)) where
  possible-by : (n d : ℕ) (c : S.Cells) → Possible d (move_by M n (frames_of S c d))
  possible-by n zero c = by-start (length M.initials - n)
    where
      by-start : (k : ℕ) → Possible zero (move_start M n k)
      by-start zero = tt
      by-start (suc k) = tt
  possible-by n (suc d) c = by-arc (S.look c d) (untried M (S.look c d))
    where
      by_test_lem : (f : Frame M.D) (o : Option M.D) → Possible (suc d) (try_arc M f o)
      by_test_lem f none = tt
      by_test_lem f (some e) = tt

      by-arc : (f : Frame M.D) (k : ℕ) → Possible (suc d) (move_top M f k)
      by-arc f zero = tt
      by-arc f (suc k) = by_test_lem f (M.follow f.next f.datum)

  pub possible : (h : Held S.Cells) → Possible h.depth (move M S h)
  unfolding move
  possible h = possible-by h.started h.depth h.cells

  -- the move at depth 0, and above it
  pub move_start_lem : (h : Held S.Cells) → h.depth ≡ 0 → move M S h ≡ move_start M h.started (length M.initials - h.started)
  unfolding move
  move_start_lem h e = ap (λ (d : ℕ). move_by M h.started (frames_of S h.cells d)) e

  pub move_top_lem : (h : Held S.Cells) (d : ℕ) → h.depth ≡ suc d → move M S h ≡ move_top M (S.look h.cells d) (untried M (S.look h.cells d))
  unfolding move
  move_top_lem h d e = ap (λ (k : ℕ). move_by M h.started (frames_of S h.cells k)) e

  started-after : (m : Move (Frame M.D)) (h : Held S.Cells) → (effect M S m h).started ≡ started_by h.started m
  started-after over h = refl
  started-after drops h = refl
  started-after (begins f) h = refl
  started-after (skips f) h = refl
  started-after (pushes f g) h = refl

  depth-after : (N : ℕ) (m : Move (Frame M.D)) (h : Held S.Cells) → Possible h.depth m → RoomFor N h.depth m → h.depth ≤ N → (effect M S m h).depth ≤ N
  depth-after N over h p r k = k
  depth-after N drops h p r k = let z : pred h.depth ≤ N = omega arith in z
  depth-after N (begins f) h p r k = omega arith
  depth-after N (skips f) h p r k = k
  depth-after N (pushes f g) h p r k = r

  module _ (L : StoreLaws S) where
    room_after : (m : Move (Frame M.D)) (h : Held S.Cells) → S.room (effect M S m h).cells ≡ S.room h.cells
    room_after over h = refl
    room_after drops h = refl
    room_after (begins f) h = L.room-put h.cells 0 f
    room_after (skips f) h = L.room-put h.cells _ f
    room_after (pushes f g) h = L.room-put (S.put h.cells _ f) h.depth g ∙ L.room-put h.cells _ f

    -- the frames after a move
    view_by : (n d : ℕ) (c : S.Cells) → d ≤ S.room c → (m : Move (Frame M.D)) → Possible d m → RoomFor (S.room c) d m
        → view_of M S (effect M S m (record { started = n; depth = d; cells = c })) ≡ frames_by (tail (frames_of S c d)) m
    view_by n zero c k over p r = refl
    view_by n zero c k drops p r = absurd p
    view_by n zero c k (begins f) p r = frames-put S L c 0 f r
    view_by n zero c k (skips f) p r = absurd p
    view_by n zero c k (pushes f g) p r = absurd p
    view_by n (suc d) c k over p r = absurd p
    view_by n (suc d) c k drops p r = refl
    view_by n (suc d) c k (begins f) p r = absurd p
    view_by n (suc d) c k (skips f) p r = frames-put S L c d f k
    view_by n (suc d) c k (pushes f g) p r =
        frames-put S L (S.put c d f) (suc d) g (subst (λ (N : ℕ). suc d < N) (sym (L.room-put c d f)) r)
        ∙ ap (λ (x : List (Frame M.D)). g ∷ x) (frames-put S L c d f k)

    pub view_after : (N : ℕ) (h : Held S.Cells) → Good M S N h → (m : Move (Frame M.D)) → Possible h.depth m → RoomFor N h.depth m
        → view_of M S (effect M S m h) ≡ frames_by (tail (view_of M S h)) m
    view_after N h G m p r =
        view_by h.started h.depth h.cells (subst (λ (k : ℕ). h.depth ≤ k) (sym G.room) G.deep) m p (subst (λ (k : ℕ). RoomFor k h.depth m) (sym G.room) r)

    -- a move that finds room keeps the place
    pub move-good : (N : ℕ) (h : Held S.Cells) → Good M S N h → RoomFor N h.depth (move M S h) → Good M S N (effect M S (move M S h) h)
    unfolding move
    move-good N h G r =
        record {
          placed = subst (λ (n : ℕ). Placed M n (view_of M S (effect M S (move M S h) h))) (sym (started-after (move M S h) h))
              (subst (λ (fs : List (Frame M.D)). Placed M (started_by h.started (move M S h)) fs) (sym (view_after N h G (move M S h) (possible h) r)) (move-placed M h.started (view_of M S h) G.placed));
          deep = depth-after N (move M S h) h (possible h) r G.deep;
          room = room_after (move M S h) h ∙ G.room;
        }

    -- what a step leads to; where it finds, the new path accepts and its output is told and fits; where it gives 23, it does not fit
    abbrev pub GoodStep : ℕ → ℕ → Stepped S.Cells → Type 0
    GoodStep N l ends = Unit {0}
    GoodStep N l (moves d) = Good M S N d
    GoodStep N l (finds d o) = Good M S N d × (accepts M (path_of M S d) ≡ true) × (output M (path_of M S d) ≡ o) × (length o ≤ l)
    GoodStep N l (refuses r) = r ≡ State OutputFull → (p : Path) × Allowed M p × (accepts M p ≡ true) × (l < length (output M p))

    -- the path of a run with a frame in use is one that the words allow
    pub allowed_at : (n d : ℕ) (c : S.Cells) → 0 < d → Placed M n (frames_of S c d) → Allowed M (walk_of n (frames_of S c d))
    allowed_at n zero c k P = absurd (omega arith)
    allowed_at n (suc d) c k P = P.allowed

    module _ (N l : ℕ) (d : Held S.Cells) (up : 0 < d.depth) where
      pushed-good : (b : Bool) → (b ≡ true → Good M S N d) → GoodStep N l (pushed M S b l d)
      pushed-good false G = λ e. absurd (let y : ◌≡◌ {A = ℕ} 0 1 = cc in omega arith)
      pushed-good true G = by_accept (accepts M (path_of M S d)) refl
        where
          by_length : accepts M (path_of M S d) ≡ true → (v : Bool) → ltb l (length (output M (path_of M S d))) ≡ v → GoodStep N l (offered M S v (output M (path_of M S d)) d)
          by_length a true e = λ z. (path_of M S d, allowed_at d.started d.depth d.cells up (G refl).placed, a, ltb-true _ _ e)
          by_length a false e = (G refl, a, refl, ltb-false _ _ e)

          by_accept : (v : Bool) → accepts M (path_of M S d) ≡ v → GoodStep N l (arrived M S v l d)
          by_accept false a = G refl
          by_accept true a = by_length a (ltb l (length (output M (path_of M S d)))) refl

    made-good : (N l : ℕ) (h : Held S.Cells) → S.room h.cells ≡ N → (m : Move (Frame M.D)) → (RoomFor N h.depth m → Good M S N (effect M S m h)) → GoodStep N l (made M S l h m)
    made-good N l h e over G = tt
    made-good N l h e drops G = G tt
    made-good N l h e (begins f) G = pushed-good N l (effect M S (begins f) h) (omega arith) (ltb h.depth (S.room h.cells)) (λ z. G (subst (λ (k : ℕ). h.depth < k) e (ltb-true _ _ z)))
    made-good N l h e (skips f) G = G tt
    made-good N l h e (pushes f g) G = pushed-good N l (effect M S (pushes f g) h) (omega arith) (ltb h.depth (S.room h.cells)) (λ z. G (subst (λ (k : ℕ). h.depth < k) e (ltb-true _ _ z)))

    pub step-good : (N l : ℕ) (h : Held S.Cells) → Good M S N h → GoodStep N l (step M S l h)
    unfolding step
    step-good N l h G = made-good N l h G.room (move M S h) (move-good N h G)
