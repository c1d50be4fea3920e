-- A call against the rest of the tour, for any machine and any store.
use Prim.Native.Nat.{ℕ, zero, suc, pred, ◌≤◌, ◌<◌}
use native.Mathlib.Omega.{arith}
use mathlib.Core.Path.{◌≡◌, refl, sym, ap, subst, ◌∙◌}
use mathlib.Core.Bool.{Bool, true, false, cond}
use mathlib.Core.Option.{none, some}
use mathlib.Core.List.{List, [], ◌∷◌, ◌++◌, append_assoc, cons≢nil, tail}
use lib.ListN.{length}
use lib.Dec.{ltb, leb}
use borrow.Author.Tests.{ltb-true, ltb-false, leb-true, leb-false}
use Rattle.refusal.specs.declared.Refusal.{Refusal}
use Rattle.refusal.specs.declared.Refusal.TheVariants.{State}
use Rattle.refusal.specs.declared.StateCause.TheVariants.{Place, StackFull, OutputFull}
use Rattle.machine.specs.Machine.{Machine, Path, accepts, output, Bounded}
use Rattle.machine.specs.Frames.{Frame, Store, frames_of, Held, view_of, path_of, walk_of, walk_to, untried, place_holds}
use Rattle.machine.specs.Step.{Move, over, drops, begins, skips, pushes, Stepped, ends, moves, finds, refuses, move, effect, offered, arrived, pushed, made, step}
use Rattle.machine.specs.Call.{Reply, found, paused, ended, refused, Replied, still, tell, spent, advance, entered, call, Stops, at_end_lem, at-reading, at-allowance, at-refusal}
use Rattle.machine.specs.Tour.{Entry, reading, readings, reading_if}
use Rattle.machine.proofs.Frames.{SameIs, StoreLaws, frames-length, depth_law, placed-place, short-place}
use Rattle.machine.specs.Place.{Placed, Good}
use Rattle.machine.proofs.Tour.{Unrolls}
use Rattle.machine.proofs.Step.{started_by, frames_by, rest_by, StepLaw, Open, move-placed, step_law, trail_open}
use Rattle.machine.proofs.Stops.{FullOnly, step-full, advance-stops}
use Rattle.machine.proofs.Held.{RoomFor, Possible, possible, view_after, move-good}

-- Replies.

-- the end is told exactly where no entry is left
abbrev pub EndLaw : Reply → List Entry → Type 0
EndLaw (found o) es = Open es
EndLaw paused es = Open es
EndLaw ended es = es ≡ []
EndLaw (refused r) es = Open es

-- the outputs that a reply tells
abbrev pub outs : Reply → List (List ℕ)
outs (found o) = o ∷ []
outs paused = []
outs ended = []
outs (refused r) = []

-- the refusals in a step: 22 only where the room N is below w, and 23
pub data StepRefusal (w N : ℕ) : Refusal → Type 0 where
  stack-full : N < w → StepRefusal w N (State StackFull)
  output-full : StepRefusal w N (State OutputFull)

-- the refusals of a call from a place in a search of depth d: 21 only where the room is below the depth
pub data CallRefusal (w N d : ℕ) : Refusal → Type 0 where
  too_short : N < d → CallRefusal w N d (State Place)
  in_step : {r : Refusal} → StepRefusal w N r → d ≤ N → CallRefusal w N d r

abbrev pub RefusedBy : (Refusal → Type 0) → Reply → Type 0
RefusedBy P (found o) = Unit {0}
RefusedBy P paused = Unit {0}
RefusedBy P ended = Unit {0}
RefusedBy P (refused r) = P r

weaken : (P Q : Refusal → Type 0) → ((r : Refusal) → P r → Q r) → (a : Reply) → RefusedBy P a → RefusedBy Q a
weaken P Q h (found o) A = tt
weaken P Q h paused A = tt
weaken P Q h ended A = tt
weaken P Q h (refused r) A = h r A

pub open_cons : (es r : List Entry) (e : Entry) → es ≡ e ∷ r → Open es
open_cons es r e x y = cons≢nil (sym x ∙ y)

pub readings-append : (M : Machine) (a b : List Entry) → readings M (a ++ b) ≡ readings M a ++ readings M b
unfolding readings
readings-append M [] b = refl
readings-append M (e ∷ a) b = rw (readings-append M a b, ← append_assoc)

module _ (M : Machine) (S : Store (Frame M.D)) where
  -- a call that is refused in a step: the next one is refused so
  stops-refused : {l n : ℕ} {h : Held S.Cells} {r : Replied S.Cells} → Stops M S l n h r → (c : Refusal) → r.reply ≡ refused c → step M S l r.after ≡ refuses c
  stops-refused (at_end_lem s k e) c z = absurd (let y : ◌≡◌ {A = ℕ} 0 1 = cc in omega arith)
  stops-refused (at-reading o s k e) c z = absurd (let y : ◌≡◌ {A = ℕ} 0 1 = cc in omega arith)
  stops-refused (at-allowance s e) c z = absurd (let y : ◌≡◌ {A = ℕ} 0 1 = cc in omega arith)
  stops-refused (at-refusal b s k e) c z = let w : b ≡ c = cc in e ∙ ap refuses w

  -- a call from a place in a search is its steps
  pub in_place-call : (n l : ℕ) (h : Held S.Cells) → place_holds M S h ≡ true → call M S n l h ≡ advance M S l n h
  unfolding call
  in_place-call n l h e = ap (λ (v : Bool). entered M S v n l h) e

  -- 21 where there is no place in a search
  pub no_place-call : (n l : ℕ) (h : Held S.Cells) → place_holds M S h ≡ false → call M S n l h ≡ still (refused (State Place)) h
  unfolding call
  no_place-call n l h e = ap (λ (v : Bool). entered M S v n l h) e

  -- "A shorter stack gives 21 whatever it holds."
  pub short-call : SameIs M → (n l : ℕ) (h : Held S.Cells) → S.room h.cells < h.depth → call M S n l h ≡ still (refused (State Place)) h
  short-call I n l h k = no_place-call n l h (short-place M I S h k)

  -- from a place in a search a call gives 22 and 23 alone
  pub place-call : (n l : ℕ) (h : Held S.Cells) → place_holds M S h ≡ true → (c : Refusal) → (call M S n l h).reply ≡ refused c → FullOnly M S c
  place-call n l h e c z =
      let r : (advance M S l n h).reply ≡ refused c = ap (λ (v : Replied S.Cells). v.reply) (sym (in_place-call n l h e)) ∙ z in
      step-full M S l (advance M S l n h).after c (stops-refused (advance-stops M S l n h) c r)

  abbrev pub rest : (Path → List Entry) → Held S.Cells → List Entry
  rest g h = rest_by M g h.started (view_of M S h)

  module _ (g : Path → List Entry) where
    -- a step takes the first entry, told by e
    pub record Takes (N : ℕ) (es : List Entry) (e : Entry) (d : Held S.Cells) : Type 0 where
      pub takes : es ≡ e ∷ rest g d
      pub good : Good M S N d

    -- a push that finds room
    abbrev Arrives : ℕ → List Entry → Held S.Cells → Type 0
    Arrives N es d = Takes N es (some (path_of M S d)) d × Open (rest g d)

    abbrev HeldLaw : ℕ → List Entry → Held S.Cells → Move (Frame M.D) → Type 0
    HeldLaw N es h over = es ≡ []
    HeldLaw N es h drops = Takes N es none (effect M S drops h)
    HeldLaw N es h (skips f) = Takes N es none (effect M S (skips f) h)
    HeldLaw N es h (begins f) = Open es × (h.depth < M.limit) × (h.depth < N → Arrives N es (effect M S (begins f) h))
    HeldLaw N es h (pushes f d) = Open es × (h.depth < M.limit) × (h.depth < N → Arrives N es (effect M S (pushes f d) h))

    abbrev SteppedLaw : ℕ → List Entry → Stepped S.Cells → Type 0
    SteppedLaw N es ends = es ≡ []
    SteppedLaw N es (moves d) = (e : Entry) × Takes N es e d × (reading M e ≡ [])
    SteppedLaw N es (finds d o) = (e : Entry) × Takes N es e d × (reading M e ≡ o ∷ []) × Open (rest g d)
    SteppedLaw N es (refuses r) = Open es × StepRefusal M.limit N r

    -- a call takes as many entries as it tells steps, and tells their readings
    pub record CallLaw (N : ℕ) (es : List Entry) (r : Replied S.Cells) : Type 0 where
      pub taken : List Entry
      pub splits : es ≡ taken ++ rest g r.after
      pub counted : length taken ≡ r.steps
      pub read : readings M taken ≡ outs r.reply
      pub good : Good M S N r.after
      pub ending : EndLaw r.reply (rest g r.after)
      pub refusal : RefusedBy (StepRefusal M.limit N) r.reply

    -- one call on a run whose used frames, as they were left, are used, and after it used'
    pub record OneLaw (h : Held S.Cells) (used : List (Frame M.D)) (c : Replied S.Cells) (used' : List (Frame M.D)) : Type 0 where
      pub taken : List Entry
      pub splits : rest_by M g h.started used ≡ taken ++ rest_by M g c.after.started used'
      pub counted : length taken ≡ c.steps
      pub read : readings M taken ≡ outs c.reply
      pub placed : Placed M c.after.started used'
      pub as_deep : length used' ≡ c.after.depth
      pub ending : EndLaw c.reply (rest_by M g c.after.started used')
      pub refusal : RefusedBy (CallRefusal M.limit (S.room h.cells) h.depth) c.reply

    -- the entries after a move whose frames are the view after it
    taking : (N : ℕ) (es : List Entry) (e : Entry) (d : Held S.Cells) (fs : List (Frame M.D)) → view_of M S d ≡ fs → es ≡ e ∷ rest_by M g d.started fs → Good M S N d → Takes N es e d
    taking N es e d fs v E G = record { takes = E ∙ ap (λ (x : List (Frame M.D)). e ∷ rest_by M g d.started x) (sym v); good = G }

    arriving : (N : ℕ) (es : List Entry) (d : Held S.Cells) (f : Frame M.D) (fs : List (Frame M.D)) → view_of M S d ≡ f ∷ fs
        → es ≡ some (walk_to d.started fs) ∷ rest_by M g d.started (f ∷ fs) → Good M S N d → Arrives N es d
    arriving N es d f fs v E G = (
      taking N es (some (path_of M S d)) d (f ∷ fs) v (E ∙ ap (λ (x : List (Frame M.D)). some (walk_of d.started x) ∷ rest_by M g d.started (f ∷ fs)) (sym v)) G,
      λ e. trail_open M g (walk_to d.started fs) f.next (untried M f) (rest_by M g d.started fs) (ap (λ (x : List (Frame M.D)). rest_by M g d.started x) (sym v) ∙ e),
    )

    module _ (B : Bounded M) (L : StoreLaws S) where
      module _ (N : ℕ) (h : Held S.Cells) (G : Good M S N h) where
        abbrev fs : List (Frame M.D)
        fs = tail (view_of M S h)

        -- the law of frames, carried to the cells
        carried : (m : Move (Frame M.D)) → Possible h.depth m → Placed M (started_by h.started m) (frames_by fs m) → (RoomFor N h.depth m → Good M S N (effect M S m h)) → length fs ≡ pred h.depth
            → StepLaw M g (rest g h) h.started fs m → HeldLaw N (rest g h) h m
        carried over p P W k T = T
        carried drops p P W k T = taking N (rest g h) none (effect M S drops h) fs (view_after M S L N h G drops p tt) T (W tt)
        carried (skips f) p P W k T = taking N (rest g h) none (effect M S (skips f) h) (f ∷ fs) (view_after M S L N h G (skips f) p tt) T (W tt)
        carried (begins f) p P W k T = (
          open_cons _ _ _ T,
          omega (arith, depth_law M B (suc h.started) (f ∷ []) P, at-bottom h.depth p),
          λ r. arriving N (rest g h) (effect M S (begins f) h) f [] (view_after M S L N h G (begins f) p r) T (W r),
        )
          where
            at-bottom : (d : ℕ) → Possible d (begins f) → d ≡ 0
            at-bottom zero q = refl
            at-bottom (suc d) q = absurd q
        carried (pushes f e) p P W k T = (
          open_cons _ _ _ T,
          omega (arith, depth_law M B h.started (e ∷ f ∷ fs) P),
          λ r. arriving N (rest g h) (effect M S (pushes f e) h) e (f ∷ fs) (view_after M S L N h G (pushes f e) p r) T (W r),
        )

      module _ (unrolls : Unrolls M g) where
        held_law : (N : ℕ) (h : Held S.Cells) → Good M S N h → HeldLaw N (rest g h) h (move M S h)
        unfolding move
        held_law N h G =
            carried N h G (move M S h) (possible M S h) (move-placed M h.started (view_of M S h) G.placed) (move-good M S L N h G) (below h.depth)
            (step_law M g unrolls h.started (view_of M S h) G.placed)
          where
            below : (d : ℕ) → length (tail (frames_of S h.cells d)) ≡ pred d
            below zero = refl
            below (suc d) = frames-length S h.cells d

        module _ (N l : ℕ) (es : List Entry) (op : Open es) where
          offered_law : (d : Held S.Cells) → Arrives N es d → accepts M (path_of M S d) ≡ true
              → (b : Bool) → SteppedLaw N es (offered M S b (output M (path_of M S d)) d)
          offered_law d T e true = (op, output-full)
          offered_law d T e false = (_, T.0, ap (λ (v : Bool). reading_if M v (output M (path_of M S d))) e, T.1)

          arrived_law : (d : Held S.Cells) → Arrives N es d → (v : Bool) → accepts M (path_of M S d) ≡ v → SteppedLaw N es (arrived M S v l d)
          arrived_law d T false e = (_, T.0, ap (λ (v : Bool). reading_if M v (output M (path_of M S d))) e)
          arrived_law d T true e = offered_law d T e (ltb l (length (output M (path_of M S d))))

          pushed_law : (x : ℕ) (d : Held S.Cells) → x < M.limit → (x < N → Arrives N es d) → (b : Bool) → ltb x N ≡ b → SteppedLaw N es (pushed M S b l d)
          pushed_law x d h T false e = (op, stack-full (let k : N ≤ x = ltb-false x N e in omega arith))
          pushed_law x d h T true e = arrived_law d (T (ltb-true x N e)) (accepts M (path_of M S d)) refl

        made_law : (N l : ℕ) (h : Held S.Cells) → S.room h.cells ≡ N → (m : Move (Frame M.D)) → HeldLaw N (rest g h) h m → SteppedLaw N (rest g h) (made M S l h m)
        made_law N l h r over T = T
        made_law N l h r drops T = (none, T, refl)
        made_law N l h r (begins f) T = pushed_law N l (rest g h) T.0 h.depth (effect M S (begins f) h) T.1 T.2 _ (ap (ltb h.depth) (sym r))
        made_law N l h r (skips f) T = (none, T, refl)
        made_law N l h r (pushes f d) T = pushed_law N l (rest g h) T.0 h.depth (effect M S (pushes f d) h) T.1 T.2 _ (ap (ltb h.depth) (sym r))

        -- a reply before any step
        still_law : (N : ℕ) (h : Held S.Cells) → Good M S N h → (a : Reply) → outs a ≡ [] → EndLaw a (rest g h) → RefusedBy (StepRefusal M.limit N) a → CallLaw N (rest g h) (still a h)
        unfolding readings
        still_law N h G a o E A = record { taken = []; splits = refl; counted = refl; read = sym o; good = G; ending = E; refusal = A }

        tell_law : (N : ℕ) (h : Held S.Cells) → Good M S N h → (s : Stepped S.Cells) → SteppedLaw N (rest g h) s → (k : Held S.Cells → Replied S.Cells)
            → ((d : Held S.Cells) → Good M S N d → CallLaw N (rest g d) (k d)) → CallLaw N (rest g h) (tell h s k)
        unfolding readings
        tell_law N h G ends T k C = still_law N h G ended refl T tt
        tell_law N h G (moves d) T k C =
            let R : CallLaw N (rest g d) (k d) = C d T.1.good in
            record {
              taken = T.0 ∷ R.taken;
              splits = T.1.takes ∙ ap (λ (x : List Entry). T.0 ∷ x) R.splits;
              counted = ap suc R.counted;
              read = rw T.2 R.read;
              good = R.good;
              ending = R.ending;
              refusal = R.refusal;
            }
        tell_law N h G (finds d o) T k C =
            record { taken = T.0 ∷ []; splits = T.1.takes; counted = refl; read = rw T.2; good = T.1.good; ending = T.3; refusal = tt }
        tell_law N h G (refuses r) T k C = still_law N h G (refused r) refl T.0 T.1

        spent_law : (N : ℕ) (h : Held S.Cells) → Good M S N h → (m : Move (Frame M.D)) → HeldLaw N (rest g h) h m → CallLaw N (rest g h) (still (spent m) h)
        spent_law N h G over T = still_law N h G ended refl T tt
        spent_law N h G drops T = still_law N h G paused refl (open_cons _ _ _ T.takes) tt
        spent_law N h G (begins f) T = still_law N h G paused refl T.0 tt
        spent_law N h G (skips f) T = still_law N h G paused refl (open_cons _ _ _ T.takes) tt
        spent_law N h G (pushes f d) T = still_law N h G paused refl T.0 tt

        advance_law : (N l n : ℕ) (h : Held S.Cells) → Good M S N h → CallLaw N (rest g h) (advance M S l n h)
        unfolding advance step
        advance_law N l zero h G = spent_law N h G (move M S h) (held_law N h G)
        advance_law N l (suc n) h G =
            tell_law N h G (step M S l h) (made_law N l h G.room (move M S h) (held_law N h G)) (λ d. advance M S l n d) (λ d H. advance_law N l n d H)

        module _ (I : SameIs M) (n l : ℕ) (h : Held S.Cells) where
          -- a stack that has the used frames
          long_law : Placed M h.started (view_of M S h) → h.depth ≤ S.room h.cells → OneLaw h (view_of M S h) (call M S n l h) (view_of M S (call M S n l h).after)
          unfolding call
          long_law P k =
              subst (λ (v : Bool). OneLaw h (view_of M S h) (entered M S v n l h) (view_of M S (entered M S v n l h).after)) (sym (placed-place M I S h k P))
              (record {
                taken = C.taken;
                splits = C.splits;
                counted = C.counted;
                read = C.read;
                placed = C.good.placed;
                as_deep = frames-length S (advance M S l n h).after.cells (advance M S l n h).after.depth;
                ending = C.ending;
                refusal = weaken (StepRefusal M.limit (S.room h.cells)) (CallRefusal M.limit (S.room h.cells) h.depth) (λ r x. in_step x k) (advance M S l n h).reply C.refusal;
              })
            where
              C : CallLaw (S.room h.cells) (rest g h) (advance M S l n h)
              C = advance_law (S.room h.cells) l n h (record { placed = P; deep = k; room = refl })

          -- a stack that is too short for them
          short_law : (used : List (Frame M.D)) → Placed M h.started used → length used ≡ h.depth → S.room h.cells < h.depth → OneLaw h used (call M S n l h) used
          unfolding readings
          short_law used P e k =
              subst (λ (c : Replied S.Cells). OneLaw h used c used) (sym (short-call I n l h k))
              (record { taken = []; splits = refl; counted = refl; read = refl; placed = P; as_deep = e; ending = deep_open used (omega arith); refusal = too_short k })
            where
              deep_open : (fs : List (Frame M.D)) → 0 < length fs → Open (rest_by M g h.started fs)
              deep_open [] z = absurd (omega arith)
              deep_open (f ∷ fs) z = trail_open M g (walk_to h.started fs) f.next (untried M f) (rest_by M g h.started fs)

          -- the used frames after a call are those of its stack, or where the stack is shorter those of before
          pub one_law : (used : List (Frame M.D)) → Placed M h.started used → length used ≡ h.depth → (h.depth ≤ S.room h.cells → view_of M S h ≡ used)
              → OneLaw h used (call M S n l h) (cond (leb h.depth (S.room h.cells)) (view_of M S (call M S n l h).after) used)
          one_law used P e J = go (leb h.depth (S.room h.cells)) refl
            where
              go : (b : Bool) → leb h.depth (S.room h.cells) ≡ b → OneLaw h used (call M S n l h) (cond b (view_of M S (call M S n l h).after) used)
              go true x =
                  let k : h.depth ≤ S.room h.cells = leb-true _ _ x in
                  subst (λ (fs : List (Frame M.D)). OneLaw h fs (call M S n l h) (view_of M S (call M S n l h).after)) (J k)
                  (long_law (subst (λ (fs : List (Frame M.D)). Placed M h.started fs) (sym (J k)) P) k)
              go false x = short_law used P e (leb-false _ _ x)
