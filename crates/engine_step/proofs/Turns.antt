-- A step of the code, way by way: what it answers and leaves is what the machine's step says.
use Prim.Native.Nat.{ℕ, zero, suc, pred, ◌-◌, ◌<◌, ◌≤◌}
use native.Mathlib.Omega.{arith}
use mathlib.Core.Path.{◌≡◌, refl, sym, ap, subst, ◌∙◌}
use mathlib.Core.Bool.{Bool, true, ◌&&◌}
use mathlib.Core.List.{List, [], ◌∷◌, ◌++◌}
use lib.Dec.{ltb}
use lib.ListN.{length, get_or, drop}
use borrow.Author.Tests.{ltb-true}
use Rattle.table_format.specs.Table.{Table}
use Rattle.refusal.specs.declared.StateCause.{StateCause}
use Rattle.refusal.specs.declared.Refusal.TheVariants.{State}
use Rattle.machine.specs.declared.Run.{Run}
use Rattle.machine.specs.Query.{Query}
use Rattle.machine.specs.Machine.{Machine, accepts, output}
use Rattle.machine.specs.Frames as F
use Rattle.machine.specs.Frames.{Held, frames_of, walk_to, path_of, entering}
use Rattle.machine.specs.Step as S
use Rattle.machine.specs.Step.{Stepped, moves, finds, refuses, tried_of, move, pushed, step}
use Rattle.machine.specs.Transducer.{Passed, member}
use Rattle.machine.specs.Stack.{room_in, look_at, put_at, store}
use Rattle.machine.proofs.Frames.{accepts-top}
use Rattle.machine.specs.Reading.{moved_to}
use Rattle.machine.specs.Place.{Placed, Good}
use Rattle.machine.proofs.Range.{in_range}
use Rattle.machine.proofs.Stack.{store_laws}
use Rattle.machine.proofs.Penalties.{written-length}
use Rattle.engine_frames.specs.declared.Setup.{Setup}
use Rattle.engine_frames.specs.Sides.{passed_in, done_by, written_of}
use Rattle.engine_frames.specs.Output.{Tried, letters_by}
use Rattle.engine_push.specs.declared.NewFrame.{NewFrame}
use Rattle.std.specs.Prelude.{Result, Some, None, Ok, Err}
use Rattle.engine_push.specs.Pushing.{Verdict, frame_in, verdict_by, tried_below, entered_at, pushed_cells, pushed_output, Pushable}
use Rattle.engine_push.proofs.Cells.{tried-length, entered-length}
use Rattle.engine_step.specs.declared.Move.{Move}
use Rattle.engine_step.specs.declared.Move.TheVariants.{Drops, Skips, Pushes}
use Rattle.engine_step.specs.declared.Turn.{Turn}
use Rattle.engine_step.specs.declared.Turn.TheVariants.{Moved, Finds}
use Rattle.engine_step.specs.Setting.{query_by, table_by, machine_by, held, Prepared}
use Rattle.engine_step.specs.Stepping.{move_as, after_push, TurnIs}
use Rattle.engine_step.proofs.Moves.{begins-is}
use Rattle.engine_step.proofs.Steps.{effect_as, step_as, push_good, refused-is, enters_are, PathIs, Found, accepts-are}
use Rattle.engine_step.proofs.Bounds.{done-is, written_is, rules, first-length, first-at, output_letters_lem, tried_of_lem, top_of}

-- the move does not look at the terminal states
same_move : (s : Setup) (classes : List (List ℕ)) (initials terminals arcs upper lower : List ℕ) (h : Held (List ℕ)) → move (machine_by s classes initials [] arcs upper lower) store h ≡ move (machine_by s classes initials terminals arcs upper lower) store h
unfolding move
same_move s classes initials terminals arcs upper lower h = refl

-- the frame that was pushed is the top one
entered-top : (c : List ℕ) (d : ℕ) (f : F.Frame (Passed × ℕ)) → d < room_in c → look_at (entered_at c d f) d ≡ f
entered-top c d f h = store_laws.look-same (tried_below c d) d f (let z = tried-length c d in omega arith)

-- what a step makes of a push, where the run after it has m initial states started and depth d
abbrev pub turn_as : Run → ℕ → ℕ → Verdict → Result Turn StateCause
turn_as run m d (Err cause) = Err cause
turn_as run m d (Ok None) = Ok (Moved (moved_to run m d))
turn_as run m d (Ok (Some k)) = Ok (Finds (moved_to run m d) k)

module _ {s : Setup} {classes : List (List ℕ)} {first initials terminals arcs upper lower : List ℕ} (R : Prepared s classes first initials terminals arcs upper lower) where
  abbrev t : Table
  t = table_by s classes initials terminals arcs

  abbrev q : Query
  q = query_by s upper lower

  abbrev M : Machine
  M = machine_by s classes initials terminals arcs upper lower

  module _ (run : Run) (n d : ℕ) (c : List ℕ) (G : Good M store (room_in c) (held n d c)) (left : d ≡ 0 → n < length initials) where
    -- what the code tells, by a machine without terminal states
    abbrev told : Move
    told = move_as n d (move (machine_by s classes initials [] arcs upper lower) store (held n d c))

    tells : (r : Move) → r ≡ told → r ≡ move_as n d (move M store (held n d c))
    tells r e = e ∙ ap (move_as n d) (same_move s classes initials terminals arcs upper lower (held n d c))

    module _ (b : List ℕ) where
      turn_by : (x : Stepped (List ℕ)) (r : Result Turn StateCause) (e o : List ℕ) → step M store (length b) (held n d c) ≡ x → TurnIs run x c b r e o → TurnIs run (step M store (length b) (held n d c)) c b r e o
      turn_by x r e o k T = subst (λ (y : Stepped (List ℕ)). TurnIs run y c b r e o) (sym k) T

      pub drop-turn : Drops ≡ told → (r : Run) → r ≡ moved_to run n (d - 1) → TurnIs run (step M store (length b) (held n d c)) c b (Ok (Moved r)) c b
      drop-turn e r k =
          turn_by (moves (held n (pred d) c)) _ _ _ (step_as t q n c d left (length b) Drops (tells Drops e))
          (ap (λ (x : Run). Ok (Moved x)) (k ∙ ap (moved_to run n) (let z : d - 1 ≡ pred d = omega arith in z)), refl, refl)

      pub skip_turn : Skips ≡ told → (e : List ℕ) → e ≡ put_at c (d - 1) (tried_of (look_at c (d - 1))) → TurnIs run (step M store (length b) (held n d c)) c b (Ok (Moved (moved_to run n d))) e b
      skip_turn k e h =
          turn_by (moves (effect_as t q n d c Skips)) _ _ _ (step_as t q n c d left (length b) Skips (tells Skips k))
          (refl, h ∙ ap (λ (j : ℕ). put_at c j (tried_of (look_at c j))) (let z : d - 1 ≡ pred d = omega arith in z), refl)

    -- no frame is dropped, and no arc tried, at depth 0
    deep : (r : Move) → r ≡ told → ((x : NewFrame) → r ≡ Pushes x → ⊥) → 1 ≤ d
    deep r e other = go d refl
      where
        go : (k : ℕ) → d ≡ k → 1 ≤ d
        go zero z = absurd (other _ (e ∙ sym (begins-is s classes initials arcs upper lower n c d z (left z))))
        go (suc k) z = omega arith

    pub drop-deep : Drops ≡ told → 1 ≤ d
    drop-deep e = deep Drops e (λ x z. let y : ◌≡◌ {A = ℕ} 0 1 = cc in omega arith)

    pub skip_deep : Skips ≡ told → 1 ≤ d
    skip_deep e = deep Skips e (λ x z. let y : ◌≡◌ {A = ℕ} 0 1 = cc in omega arith)

    pub skip_next : (k : ℕ) → d ≡ suc k → (look_at c k).next ≤ 1024
    skip_next k j = ((top_of R n d c G left).top_in k j).next_small

    -- a push adds a frame to those that there are
    push_depth : (e : NewFrame) (v : S.Move (F.Frame (Passed × ℕ))) → Pushes e ≡ move_as n d v → e.depth ≡ suc d
    push_depth e S.over z = absurd (let y : ◌≡◌ {A = ℕ} 0 1 = cc in omega arith)
    push_depth e S.drops z = absurd (let y : ◌≡◌ {A = ℕ} 0 1 = cc in omega arith)
    push_depth e (S.begins g) z = cc
    push_depth e (S.skips f) z = absurd (let y : ◌≡◌ {A = ℕ} 0 1 = cc in omega arith)
    push_depth e (S.pushes f g) z = cc

    module _ (b : List ℕ) (e : NewFrame) (E : Pushes e ≡ told) where
      abbrev f : F.Frame (Passed × ℕ)
      f = entering M e.state (passed_in e.passed, e.sum)

      abbrev after : Held (List ℕ)
      after = after_push t q d c e

      abbrev accepting : Bool
      accepting = member e.state terminals && done_by s upper lower (passed_in e.passed)

      abbrev count : ℕ
      count = written_of s (passed_in e.passed)

      module _ (room : d < room_in c) where
        top : look_at (entered_at c d f) d ≡ f
        top = entered-top c d f room

        placed : Placed M e.started (f ∷ frames_of store (entered_at c d f) d)
        placed =
            subst (λ (g : F.Frame (Passed × ℕ)). Placed M e.started (g ∷ frames_of store (entered_at c d f) d)) top
            (push_good t q n c d left (room_in c) G room e (tells _ E)).placed

        accepts-after : accepts M (path_of M store after) ≡ accepting
        accepts-after =
            accepts-top M e.started f (frames_of store (entered_at c d f) d) placed
            ∙ ap (λ (v : Bool). member e.state terminals && v) (done-is s R.reads-some t upper lower (passed_in e.passed))

        length-after : length (output M (path_of M store after)) ≡ count
        length-after =
            written-length t q (walk_to e.started (frames_of store (entered_at c d f) d)) (passed_in e.passed, e.sum) placed.datum-is ∙ written_is s R.reads-some upper lower (passed_in e.passed)

        in_states : e.state < s.states
        in_states = (in_range t q (rules R) e.started f (frames_of store (entered_at c d f) d) placed).state_in_lem

        indexed : e.state < length first
        indexed = omega (arith, in_states, first-length R, (rules R).few-states)

        frame_is : frame_in e (get_or first e.state 0) ≡ f
        frame_is = ap (frame_in e) (first-at R e.state (omega (arith, in_states)))

        letters-after : output M (path_of M store after) ≡ letters_by s arcs upper lower (entered_at c d f) d
        letters-after = output_letters_lem R e.started (entered_at c d f) d f placed

        tried-after : Tried s arcs upper lower (entered_at c d f) d
        tried-after = tried_of_lem R e.started (entered_at c d f) d f (omega (arith, entered-length c d f)) placed

      facts : ltb d (room_in c) ≡ true → PathIs t q after (length b) count accepting
      facts z = let room : d < room_in c = ltb-true d (room_in c) z in (accepts-after room, length-after room)

      abbrev verdict : Verdict
      verdict = verdict_by s terminals upper lower d e c (length b)

      pushes : step M store (length b) (held n d c) ≡ pushed M store (ltb d (room_in c)) (length b) after
      pushes = step_as t q n c d left (length b) (Pushes e) (tells (Pushes e) E)

      refuse_turn : (cause : StateCause) → Err cause ≡ verdict → (g o : List ℕ) → g ≡ c → o ≡ b → TurnIs run (step M store (length b) (held n d c)) c b (Err cause) g o
      refuse_turn cause v g o y z =
          turn_by b (refuses (State cause)) _ _ _ (pushes ∙ refused-is t q after (length b) count accepting (ltb d (room_in c)) facts cause v) (refl, y, z)

      module _ (g : List ℕ) (entered : g ≡ entered_at c d (frame_in e (get_or first e.state 0))) where
        cells_is : d < room_in c → g ≡ entered_at c d f
        cells_is room = entered ∙ ap (entered_at c d) (frame_is room)

        enter_turn : Ok None ≡ verdict → (o : List ℕ) → o ≡ b → TurnIs run (step M store (length b) (held n d c)) c b (Ok (Moved (moved_to run e.started (suc d)))) g o
        enter_turn v o z =
            let X = enters_are t q after (length b) count accepting (ltb d (room_in c)) facts v in
            turn_by b (moves after) _ _ _ (pushes ∙ X.1) (refl, cells_is (ltb-true d (room_in c) X.0), z)

        module _ (k : ℕ) (v : Ok (Some k) ≡ verdict) where
          F₀ : Found t q after (length b) count accepting (ltb d (room_in c)) k
          F₀ = accepts-are t q after (length b) count accepting (ltb d (room_in c)) facts k v

          room₀ : d < room_in c
          room₀ = ltb-true d (room_in c) F₀.has_room

          word-is : output M (path_of M store after) ≡ letters_by s arcs upper lower g d
          word-is = letters-after room₀ ∙ ap (λ (l : List ℕ). letters_by s arcs upper lower l d) (sym (cells_is room₀))

          write_ready : Tried s arcs upper lower g d × ((k ≡ length (letters_by s arcs upper lower g d)) × (k ≤ length b))
          write_ready = (subst (λ (l : List ℕ). Tried s arcs upper lower l d) (sym (cells_is room₀)) (tried-after room₀), (F₀.counted ∙ ap length word-is, F₀.has_space))

          find_turn : (o : List ℕ) → o ≡ letters_by s arcs upper lower g d ++ drop (length (letters_by s arcs upper lower g d)) b → TurnIs run (step M store (length b) (held n d c)) c b (Ok (Finds (moved_to run e.started (suc d)) k)) g o
          find_turn o w =
              turn_by b (finds after (output M (path_of M store after))) _ _ _ (pushes ∙ F₀.told) (
                ap (λ (x : ℕ). Ok (Finds (moved_to run e.started (suc d)) x)) F₀.counted,
                cells_is room₀,
                w ∙ ap (λ (l : List ℕ). l ++ drop (length l) b) (sym word-is),
              )

      after_is : e.depth ≡ suc d
      after_is = push_depth e (move (machine_by s classes initials [] arcs upper lower) store (held n d c)) E

      below-is : e.depth - 1 ≡ d
      below-is = omega (arith, after_is)

      -- what a push may rely on
      pub pushable : (1 ≤ e.depth) × Pushable s first terminals arcs upper lower (e.depth - 1) e c b
      pushable = (
        omega (arith, after_is),
        subst (λ (j : ℕ). Pushable s first terminals arcs upper lower j e c b) (sym below-is)
            (record {
              reads-some = R.reads-some;
              on_stack = omega (arith, G.deep);
              indexes = indexed;
              counts = skip_next;
              writes = λ k v g z. write_ready g z k v;
            }),
      )

      push_by : (v : Verdict) (g o : List ℕ) → v ≡ verdict → g ≡ pushed_cells v c d (frame_in e (get_or first e.state 0)) → o ≡ pushed_output v s arcs upper lower g d b
          → TurnIs run (step M store (length b) (held n d c)) c b (turn_as run e.started (suc d) v) g o
      push_by (Err cause) g o v y z = refuse_turn cause v g o y z
      push_by (Ok None) g o v y z = enter_turn g y v o z
      push_by (Ok (Some k)) g o v y z = find_turn g y k v o z

      -- by what the code of a push says
      pub push_turn : (v : Verdict) (g o : List ℕ) (r : Result Turn StateCause) → v ≡ verdict_by s terminals upper lower (e.depth - 1) e c (length b)
          → g ≡ pushed_cells v c (e.depth - 1) (frame_in e (get_or first e.state 0)) → o ≡ pushed_output v s arcs upper lower g (e.depth - 1) b → r ≡ turn_as run e.started e.depth v
          → TurnIs run (step M store (length b) (held n d c)) c b r g o
      push_turn v g o r y z w k =
          subst (λ (i : Result Turn StateCause). TurnIs run (step M store (length b) (held n d c)) c b i g o) (sym (k ∙ ap (λ (i : ℕ). turn_as run e.started i v) after_is))
          (push_by v g o (y ∙ ap (λ (i : ℕ). verdict_by s terminals upper lower i e c (length b)) below-is)
          (z ∙ ap (λ (i : ℕ). pushed_cells v c i (frame_in e (get_or first e.state 0))) below-is) (w ∙ ap (λ (i : ℕ). pushed_output v s arcs upper lower g i b) below-is))
