-- The loop of a call, turn by turn: what is known at its head, and what each way out answers.
use Prim.Native.Nat.{ℕ, suc, ◌+◌, ◌-◌, ◌<◌, ◌≤◌}
use native.Mathlib.Omega.{arith}
use mathlib.Core.Path.{◌≡◌, refl, sym, ap, subst, ◌∙◌}
use mathlib.Core.Bool.{Bool, true, false, ◌&&◌}
use mathlib.Core.List.{List, ◌++◌}
use lib.Dec.{eqb, leb}
use lib.ListN.{length, drop}
use borrow.Author.Tests.{eqb-true, eqb-false, eq-eqb, leb-true, leb-false}
use Rattle.table_format.proofs.Tests.{and_left, and_right}
use Rattle.table_format.specs.Table.{Table}
use Rattle.refusal.specs.declared.StateCause.{StateCause}
use Rattle.refusal.specs.declared.Refusal.TheVariants.{Input, State}
use Rattle.machine.specs.declared.Run.{Run}
use Rattle.machine.specs.declared.Answer.{Answer}
use Rattle.machine.specs.declared.Answer.TheVariants.{Found, Paused, Ended, Refused}
use Rattle.machine.specs.declared.Called.{Called}
use Rattle.machine.specs.Query.{Query}
use Rattle.machine.specs.Machine.{Machine}
use Rattle.machine.specs.Frames.{Held}
use Rattle.machine.specs.Step as S
use Rattle.machine.specs.Step.{Stepped, ends, moves, finds, refuses, move_start, move, step}
use Rattle.machine.specs.Call as R
use Rattle.machine.specs.Call.{Replied, still, advance}
use Rattle.machine.specs.Transducer.{machine}
use Rattle.machine.specs.Stack.{room_in, store}
use Rattle.machine.proofs.Held.{GoodStep, step-good, move_start_lem}
use Rattle.machine.specs.Place.{Good}
use Rattle.machine.proofs.Turn.{plus, ended-turn, paused-turn, moved-turn, found_turn, refused-turn}
use Rattle.machine.proofs.Stack.{store_laws}
use Rattle.engine_step.specs.declared.Turn.{Turn}
use Rattle.engine_step.specs.declared.Turn.TheVariants.{Moved, Finds}
use Rattle.machine.specs.Reading.{held_of, moved_to}
use Rattle.engine_step.specs.Stepping.{TurnIs}
use Rattle.std.specs.Prelude.{Option, Some, None, Result, Ok, Err}
use Rattle.engine_search.specs.Searching.{called_with, due_at, SearchIs}
use Rattle.engine_step.proofs.Steps.{move-there}

-- What a turn says of the step, where the run was run.

held_ext : (h : Held (List ℕ)) (r : Run) (c : List ℕ) → h.started ≡ r.started → h.depth ≡ r.depth → h.cells ≡ c → h ≡ held_of r c
held_ext h r c x y z = λ i. record { started = x i; depth = y i; cells = z i }

module _ (run : Run) (c b : List ℕ) (r : Result Turn StateCause) (e o : List ℕ) where
  -- a run that is the run moved on
  moved_on : (n d : ℕ) (v : Run) → moved_to run n d ≡ v → moved_to run v.started v.depth ≡ v
  moved_on n d v y = sym (ap (λ (j : Run). moved_to run j.started j.depth) y) ∙ y

  pub turn_moved : (x : Stepped (List ℕ)) (v : Run) → TurnIs run x c b r e o → r ≡ Ok (Moved v) → (x ≡ moves (held_of v e)) × (o ≡ b) × (moved_to run v.started v.depth ≡ v)
  turn_moved ends v T z = absurd T
  turn_moved (moves h) v T z =
      let y : moved_to run h.started h.depth ≡ v = cc T.0 in
      (ap moves (held_ext h v e (ap (λ (j : Run). j.started) y) (ap (λ (j : Run). j.depth) y) (sym T.1)), T.2, moved_on _ _ v y)
  turn_moved (finds h w) v T z = absurd (let y : ◌≡◌ {A = ℕ} 0 1 = cc T.0 in omega arith)
  turn_moved (refuses (Input cause)) v T z = absurd T.0
  turn_moved (refuses (State cause)) v T z = absurd (let y : ◌≡◌ {A = ℕ} 0 1 = cc T.0 in omega arith)

  pub turn-finds : (x : Stepped (List ℕ)) (v : Run) (n : ℕ) → TurnIs run x c b r e o → r ≡ Ok (Finds v n) → (w : List ℕ) × (x ≡ finds (held_of v e) w) × (n ≡ length w) × (o ≡ w ++ drop (length w) b) × (moved_to run v.started v.depth ≡ v)
  turn-finds ends v n T z = absurd T
  turn-finds (moves h) v n T z = absurd (let y : ◌≡◌ {A = ℕ} 0 1 = cc T.0 in omega arith)
  turn-finds (finds h w) v n T z =
      let y : moved_to run h.started h.depth ≡ v = cc T.0 in
      let m : n ≡ length w = cc T.0 in
      (w, ap (λ (g : Held (List ℕ)). finds g w) (held_ext h v e (ap (λ (j : Run). j.started) y) (ap (λ (j : Run). j.depth) y) (sym T.1)), m, T.2, moved_on _ _ v y)
  turn-finds (refuses (Input cause)) v n T z = absurd T.0
  turn-finds (refuses (State cause)) v n T z = absurd (let y : ◌≡◌ {A = ℕ} 0 1 = cc T.0 in omega arith)

  pub turn-refused : (x : Stepped (List ℕ)) (cause : StateCause) → TurnIs run x c b r e o → r ≡ Err cause → (x ≡ refuses (State cause)) × (e ≡ c) × (o ≡ b)
  turn-refused ends cause T z = absurd T
  turn-refused (moves h) cause T z = absurd (let y : ◌≡◌ {A = ℕ} 0 1 = cc T.0 in omega arith)
  turn-refused (finds h w) cause T z = absurd (let y : ◌≡◌ {A = ℕ} 0 1 = cc T.0 in omega arith)
  turn-refused (refuses (Input x)) cause T z = absurd T.0
  turn-refused (refuses (State x)) cause T z = let y : x ≡ cause = cc T.0 in (ap (λ (v : StateCause). refuses (State v)) y, T.1, T.2)

-- The end.

over-true : (d n m : ℕ) → (eqb d 0 && leb m n) ≡ true → (d ≡ 0) × (m ≤ n)
over-true d n m e = (eqb-true d 0 (and_left (eqb d 0) (leb m n) e), leb-true m n (and_right (eqb d 0) (leb m n) e))

over_false : (d n m : ℕ) → (eqb d 0 && leb m n) ≡ false → d ≡ 0 → n < m
over_false d n m e z = leb-false m n (ap (λ (v : Bool). v && leb m n) (sym (eq-eqb d 0 z)) ∙ e)

-- What is due.

-- an answer that is none
pub none_left : (o : Option Answer) → ((a : Answer) → o ≡ Some a → ⊥) → o ≡ None
none_left None h = refl
none_left (Some a) h = absurd (h a refl)

due-step : (over spent : Bool) (k : ℕ) → due_at over spent k ≡ None → (over ≡ false) × (spent ≡ false)
due-step true spent k e = absurd (let y : ◌≡◌ {A = ℕ} 0 1 = cc e in omega arith)
due-step false true k e = absurd (let y : ◌≡◌ {A = ℕ} 0 1 = cc e in omega arith)
due-step false false k e = (refl, refl)

module _ (t : Table) (q : Query) (run : Run) (b : List ℕ) (allowance : ℕ) (h₀ : Held (List ℕ)) where
  abbrev total : Replied (List ℕ)
  total = advance (machine t q) store (length b) allowance h₀

  -- the run moved on to another's place
  abbrev run_of : Run → Run
  run_of v = moved_to run v.started v.depth

  -- at the loop's head, after k steps
  pub record Going (c₀ c o : List ℕ) (at : Run) (k : ℕ) : Type 0 where
    pub within : k ≤ allowance
    pub same_run : run_of at ≡ at
    pub same_length : length c ≡ length c₀
    pub untouched : o ≡ b
    pub good : Good (machine t q) store (room_in c) (held_of at c)
    pub told : plus k (advance (machine t q) store (length b) (allowance - k) (held_of at c)) ≡ total

  -- the answer a after the run v is the one of a call that is told x
  search_by : (x : Replied (List ℕ)) (v : Run) (a : Answer) (r : Called) (e o : List ℕ) → x ≡ total → run_of v ≡ v → r ≡ called_with a v
      → SearchIs run b x (called_with a (run_of v)) e o → SearchIs run b total r e o
  search_by x v a r e o z s k S =
      subst (λ (y : Replied (List ℕ)). SearchIs run b y r e o) z
      (subst (λ (y : Called). SearchIs run b x y e o) (ap (called_with a) s ∙ sym k) S)

  module _ (c₀ c o : List ℕ) (at : Run) (k : ℕ) (I : Going c₀ c o at k) where
    abbrev M : Machine
    M = machine t q

    abbrev h : Held (List ℕ)
    h = held_of at c

    abbrev due : Option Answer
    due = due_at (eqb at.depth 0 && leb (length t.initials) at.started) (eqb k allowance) k

    over-answer : at.depth ≡ 0 → length t.initials ≤ at.started → (r : Called) → r ≡ called_with (Ended k) at → SearchIs run b total r c o
    over-answer z m r y =
        search_by (plus k (still R.ended h)) at (Ended k) r _ _ (ap (plus k) (sym (ended-turn M store (length b) h (allowance - k) at_end_lem)) ∙ I.told) I.same_run y
        (ap (λ (j : ℕ). called_with (Ended j) (run_of at)) (let x : k ≡ k + 0 = omega arith in x), refl, I.untouched)
      where
        at_end_lem : move M store h ≡ S.over
        at_end_lem = move_start_lem M store h z ∙ ap (move_start M at.started) (let x : length t.initials - at.started ≡ 0 = omega arith in x)

    paused-answer : (at.depth ≡ 0 → at.started < length t.initials) → k ≡ allowance → (r : Called) → r ≡ called_with (Paused k) at → SearchIs run b total r c o
    paused-answer left z r y =
        search_by (plus k (still R.paused h)) at (Paused k) r _ _
        (ap (plus k) (sym (ap (λ (m : ℕ). advance M store (length b) m h) (let x : allowance - k ≡ 0 = omega arith in x) ∙ paused-turn M store (length b) h (move-there t q at.started c at.depth left))) ∙ I.told)
        I.same_run y
        (ap (λ (j : ℕ). called_with (Paused j) (run_of at)) (let x : k ≡ k + 0 = omega arith in x), refl, I.untouched)

    pub stop_answer : (d : Option Answer) → d ≡ due → (a : Answer) → d ≡ Some a → (r : Called) → r ≡ called_with a at → SearchIs run b total r c o
    stop_answer d m a e r y = go (eqb at.depth 0 && leb (length t.initials) at.started) (eqb k allowance) refl refl (sym m ∙ e)
      where
        go : (over spent : Bool) → (eqb at.depth 0 && leb (length t.initials) at.started) ≡ over → eqb k allowance ≡ spent → due_at over spent k ≡ Some a → SearchIs run b total r c o
        go true spent u v w =
            let z : a ≡ Ended k = cc w in
            let x = over-true at.depth at.started (length t.initials) u in
            over-answer x.0 x.1 r (y ∙ ap (λ (j : Answer). called_with j at) z)
        go false true u v w =
            let z : a ≡ Paused k = cc w in
            paused-answer (over_false at.depth at.started (length t.initials) u) (eqb-true k allowance v) r (y ∙ ap (λ (j : Answer). called_with j at) z)
        go false false u v w = absurd (let z : ◌≡◌ {A = ℕ} 0 1 = cc w in omega arith)

    module _ (d : Option Answer) (m : d ≡ due) (goes : d ≡ None) (r : Result Turn StateCause) (e x : List ℕ) (T₀ : TurnIs at (step M store (length o) h) c o r e x) where
      other : k ≡ allowance → ⊥
      other = eqb-false k allowance (due-step (eqb at.depth 0 && leb (length t.initials) at.started) (eqb k allowance) k (sym m ∙ goes)).1

      pub more : k < allowance
      more = omega (arith, I.within, other)

      T : TurnIs at (step M store (length b) h) c b r e x
      T = subst (λ (y : List ℕ). TurnIs at (step M store (length y) h) c y r e x) I.untouched T₀

      stays : (v : Run) → moved_to at v.started v.depth ≡ v → run_of v ≡ v
      stays v z = ap (λ (j : Run). moved_to j v.started v.depth) I.same_run ∙ z

      again : (m : Replied (List ℕ)) → advance M store (length b) (suc (allowance - (k + 1))) h ≡ m → plus k m ≡ total
      again m z = ap (plus k) (sym z ∙ ap (λ (j : ℕ). advance M store (length b) j h) (let y : suc (allowance - (k + 1)) ≡ allowance - k = omega (arith, more) in y)) ∙ I.told

      pub going_more : length e ≡ length c → (v : Run) → r ≡ Ok (Moved v) → Going c₀ e x v (k + 1)
      going_more kept v z =
          let w = turn_moved at c b r e x (step M store (length b) h) v T z in
          let G : Good M store (room_in c) (held_of v e) = subst (GoodStep M store store_laws (room_in c) (length b)) w.0 (step-good M store store_laws (room_in c) (length b) h I.good) in
          record {
            within = omega (arith, more);
            same_run = stays v w.2;
            same_length = kept ∙ I.same_length;
            untouched = w.1;
            good = subst (λ (m : ℕ). Good M store m (held_of v e)) (sym G.room) G;
            told = ap (λ (m : ℕ). plus m (advance M store (length b) (allowance - (k + 1)) (held_of v e))) (let y : k + 1 ≡ suc k = omega arith in y)
                ∙ sym (moved-turn M store (length b) h (allowance - (k + 1)) k (held_of v e) w.0)
                ∙ again (advance M store (length b) (suc (allowance - (k + 1))) h) refl;
          }

      pub found-answer : (v : Run) (j : ℕ) → r ≡ Ok (Finds v j) → (d : Called) → d ≡ called_with (Found (k + 1) j) v → SearchIs run b total d e x
      found-answer v j z d y =
          let w = turn-finds at c b r e x (step M store (length b) h) v j T z in
          search_by (plus k (record { reply = R.found w.0; steps = 1; after = held_of v e })) v (Found (k + 1) j) d _ _
          (again _ (found_turn M store (length b) h (allowance - (k + 1)) (held_of v e) w.0 w.1)) (stays v w.4) y
          (ap (λ (m : ℕ). called_with (Found (k + 1) m) (run_of v)) w.2, refl, w.3)

      pub refused-answer : (cause : StateCause) → r ≡ Err cause → (d : Called) → d ≡ called_with (Refused k (State cause)) at → SearchIs run b total d e x
      refused-answer cause z d y =
          let w = turn-refused at c b r e x (step M store (length b) h) cause T z in
          search_by (plus k (still (R.refused (State cause)) h)) at (Refused k (State cause)) d _ _
          (again _ (refused-turn M store (length b) h (allowance - (k + 1)) (State cause) w.0)) I.same_run y
          (ap (λ (j : ℕ). called_with (Refused j (State cause)) (run_of at)) (let m : k ≡ k + 0 = omega arith in m), w.1, w.2)
