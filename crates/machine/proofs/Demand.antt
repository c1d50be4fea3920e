-- Demand 3: a start without a refusal, and any list of calls after it.
use Prim.Native.Nat.{ℕ, suc, ◌+◌, ◌*◌, ◌≤◌, ◌<◌, min}
use native.Mathlib.Omega.{arith}
use native.Mathlib.Nat.{sub-zero}
use mathlib.Core.Path.{◌≡◌, refl, sym, ap, ap₂, subst, ◌∙◌}
use mathlib.Core.Logic.{◌⊎◌, inl, inr}
use mathlib.Core.Bool.{Bool, true, false, cond}
use mathlib.Core.List.{List, [], ◌∷◌, ◌++◌, append_assoc}
use lib.ListN.{length, take, length-append}
use lib.Seq.{take-append_seam, take-length}
use lib.Dec.{leb}
use borrow.Author.Tests.{leb-true, leb-false, le-leb, lt-leb}
use Rattle.refusal.specs.declared.Refusal.{Refusal}
use Rattle.table_format.specs.Table.{Table}
use Rattle.table_format.specs.Loaded.{loaded}
use Rattle.refusal.specs.Refusal.{number_of}
use Rattle.machine.specs.declared.Run.{Run}
use Rattle.machine.specs.Query.{Query}
use Rattle.machine.specs.Machine.{Machine, Bounded}
use Rattle.machine.specs.Frames.{Frame, frames_of}
use Rattle.machine.specs.Call.{Reply, Replied, call}
use Rattle.machine.specs.Tour.{Entry, after, tour, tour_from, readings, tree_size}
use Rattle.machine.specs.Transducer.{Passed, letters_to_read, machine}
use Rattle.machine.specs.Stack.{most_frames, frames_in, room_in, store}
use Rattle.refusal.specs.Told.{refused_kind}
use Rattle.machine.specs.Answer.{told, output_told}
use Rattle.machine.specs.Asked.{Asked, runs, asked}
use Rattle.machine.specs.Start.{first_run}
use Rattle.machine.specs.Reading.{Outcome, told_by, held_of, answer_as, outcome_as, outcome_of, outcome, CallBy}
use Rattle.machine.specs.Demand.{Lent, used_of, call_on, steps_on, run_after, used_after, Handed, received, steps_told, CallTells, Tells, Demand3, LastEnds}
use Rattle.machine.proofs.Frames.{depth_law}
use Rattle.machine.specs.Place.{Placed}
use Rattle.machine.proofs.Tour.{unrolls, tree_law}
use Rattle.machine.proofs.Step.{rest_by}
use Rattle.machine.proofs.Call.{EndLaw, stack-full, output-full, CallRefusal, too_short, in_step, RefusedBy, readings-append, short-call, OneLaw, one_law}
use Rattle.machine.proofs.Reading.{steps-is, told_is, end_is, refused_kind_lem, refused-number, call_by, by_call, never-full}
use Rattle.machine.proofs.Asked.{same_asked}
use Rattle.machine.proofs.Stack.{store_laws, same-is, frames-take}

-- the refusals of a call by their numbers
pub record Numbered (w N d m : ℕ) : Type 0 where
  pub one_of : (m ≡ 21) ⊎ ((m ≡ 22) ⊎ (m ≡ 23))
  pub short : m ≡ 21 → N < d
  pub full : m ≡ 22 → N < w

numbered : (w N d : ℕ) (r : Refusal) → CallRefusal w N d r → Numbered w N d (number_of r)
numbered w N d r (too_short h) = record { one_of = inl refl; short = λ e. h; full = λ e. absurd (omega arith) }
numbered w N d r (in_step (stack-full h) k) = record { one_of = inr (inl refl); short = λ e. absurd (omega arith); full = λ e. h }
numbered w N d r (in_step output-full k) = record { one_of = inr (inr refl); short = λ e. absurd (omega arith); full = λ e. absurd (omega arith) }

none_left : (es : List Entry) → length es ≡ 0 → es ≡ []
none_left [] e = refl
none_left (x ∷ es) e = absurd (omega arith)

-- below 33,024 the room of a stack is its frames
room-test : (d f : ℕ) → d ≤ most_frames → leb d (min f most_frames) ≡ leb d f
room-test d f h = go (leb d f) refl
  where
    go : (b : Bool) → leb d f ≡ b → leb d (min f most_frames) ≡ b
    go true e = let k : d ≤ f = leb-true _ _ e in le-leb d (min f most_frames) (omega arith)
    go false e = let k : f < d = leb-false _ _ e in lt-leb d (min f most_frames) (omega arith)

module _ (t : Table) (q : Query) (B : Bounded (machine t q)) (F : (letters_to_read q + 1) * t.states ≤ most_frames) where
  abbrev M : Machine
  M = machine t q

  -- the run and its used cells are a place in a search from which the entries es are left
  pub record At (r : Run) (used : List ℕ) (es : List Entry) : Type 0 where
    pub frames : List (Frame (Passed × ℕ))
    pub placed : Placed M r.started frames
    pub as_deep : length frames ≡ r.depth
    pub held : (c : List ℕ) → r.depth ≤ frames_in c → used_of r.depth c ≡ used → frames_of store c r.depth ≡ frames
    pub left : rest_by M (after M) r.started frames ≡ es

  abbrev used_by : Run → List ℕ → Lent → Outcome → List ℕ
  used_by r used x o = cond (leb r.depth (frames_in x.stack)) (used_of o.called.run.depth o.stack) used

  -- one call takes as many entries as it tells steps, and tells their readings
  pub record OneCall (es : List Entry) (r : Run) (used : List ℕ) (x : Lent) (o : Outcome) : Type 0 where
    pub taken : List Entry
    pub left : List Entry
    pub splits : es ≡ taken ++ left
    pub counted : length taken ≡ (told_by o).steps
    pub read : readings M taken ≡ output_told (told_by o) o.output
    pub at : At o.called.run (used_by r used x o) left
    pub same-task : o.called.run.task ≡ r.task
    pub same-ceiling : o.called.run.ceiling ≡ r.ceiling
    pub tells : (n : ℕ) → n + length es ≡ tree_size M → CallTells t q n r x o

  module _ (es : List Entry) (r : Run) (used : List ℕ) (x : Lent) (A : At r used es) (J : r.depth ≤ frames_in x.stack → used_of r.depth x.stack ≡ used) where
    abbrev T : Replied (List ℕ)
    T = call M store x.allowance (length x.buffer) (held_of r x.stack)

    abbrev o : Outcome
    o = outcome_as r x.buffer T

    shallow : r.depth ≤ most_frames
    shallow = omega (arith, depth_law M B r.started A.frames A.placed, A.as_deep)

    -- the used frames after the call
    abbrev frames' : Bool → List (Frame (Passed × ℕ))
    frames' b = cond b (frames_of store T.after.cells T.after.depth) A.frames

    L : OneLaw M store (after M) (held_of r x.stack) A.frames T (frames' (leb r.depth (room_in x.stack)))
    L =
        one_law M store (after M) B store_laws (unrolls M B) (same-is t q) x.allowance (length x.buffer) (held_of r x.stack) A.frames A.placed A.as_deep
        (λ h. A.held x.stack (omega arith) (J (omega arith)))

    -- the used cells hold the used frames
    kept : (b : Bool) → length (frames' b) ≡ T.after.depth → (c : List ℕ) → T.after.depth ≤ frames_in c
        → used_of T.after.depth c ≡ cond b (used_of T.after.depth T.after.cells) used → frames_of store c T.after.depth ≡ frames' b
    kept true e c h u = frames-take c T.after.cells T.after.depth T.after.depth (omega arith) u
    kept false e c h u =
        let d : r.depth ≡ T.after.depth = sym A.as_deep ∙ e in
        subst (λ (n : ℕ). frames_of store c n ≡ A.frames) d
        (A.held c (omega arith) (ap (λ (n : ℕ). used_of n c) d ∙ u))

    left : List Entry
    left = rest_by M (after M) T.after.started (frames' (leb r.depth (frames_in x.stack)))

    one : OneCall es r used x o
    unfolding left
    one =
        record {
          taken = L.taken;
          left = left;
          splits = sym A.left ∙ L.splits ∙ ap (λ (b : Bool). L.taken ++ rest_by M (after M) T.after.started (frames' b)) (room-test r.depth (frames_in x.stack) shallow);
          counted = L.counted ∙ sym (steps-is T.reply T.steps);
          read = L.read ∙ sym (told_is T.reply T.steps x.buffer);
          at = at_place;
          same-task = refl;
          same-ceiling = refl;
          tells = λ n e. tells_law n e;
        }
      where
        same-room : leb r.depth (room_in x.stack) ≡ leb r.depth (frames_in x.stack)
        same-room = room-test r.depth (frames_in x.stack) shallow

        at_place : At o.called.run (used_by r used x o) left
        at_place =
            record {
              frames = frames' (leb r.depth (frames_in x.stack));
              placed = subst (λ (b : Bool). Placed M T.after.started (frames' b)) same-room L.placed;
              as_deep = subst (λ (b : Bool). length (frames' b) ≡ T.after.depth) same-room L.as_deep;
              held = kept (leb r.depth (frames_in x.stack)) (subst (λ (b : Bool). length (frames' b) ≡ T.after.depth) same-room L.as_deep);
              left = refl;
            }

        ending : EndLaw T.reply left
        ending = subst (λ (b : Bool). EndLaw T.reply (rest_by M (after M) T.after.started (frames' b))) same-room L.ending

        sizes : length es ≡ T.steps + length left
        sizes =
            ap length (sym A.left ∙ L.splits ∙ ap (λ (b : Bool). L.taken ++ rest_by M (after M) T.after.started (frames' b)) same-room)
            ∙ length-append L.taken left
            ∙ ap (λ (n : ℕ). n + length left) L.counted

        facts : (told_by o).kind ≡ refused_kind → Numbered M.limit (room_in x.stack) r.depth (told_by o).number
        facts e =
            let A = refused_kind_lem T.reply T.steps e in
            subst (λ (k : ℕ). Numbered M.limit (room_in x.stack) r.depth k) A.2
            (numbered M.limit (room_in x.stack) r.depth A.0 (subst (λ (a : Reply). RefusedBy (CallRefusal M.limit (room_in x.stack) r.depth) a) A.1 L.refusal))

        numbered_as : (m : ℕ) → (told_by o).number ≡ suc m → Numbered M.limit (room_in x.stack) r.depth (told_by o).number
        numbered_as m e = facts (refused-number T.reply T.steps m e)

        short-from : frames_in x.stack < r.depth → (told_by o).number ≡ 21
        short-from h =
            ap (λ (c : Replied (List ℕ)). (told (answer_as c.reply c.steps)).number) (short-call M store (same-is t q) x.allowance (length x.buffer) (held_of r x.stack) (omega arith))

        deep : r.depth ≤ M.limit
        deep = omega (arith, depth_law M B r.started A.frames A.placed, A.as_deep)

        tells_law : (n : ℕ) → n + length es ≡ tree_size M → CallTells t q n r x o
        tells_law n e =
            let S : (told_by o).steps ≡ T.steps = steps-is T.reply T.steps in
            let C : CallBy t q r x.stack x.allowance x.buffer o = call_by t q r x.stack x.allowance x.buffer in
            let E = end_is T.reply T.steps left ending in
            record {
              by-steps = C;
              ended_is = (λ z. omega (arith, ap length (E.0 z), sizes), λ z. E.1 (none_left left (omega (arith, sizes))));
              short-is = (λ z. let h : room_in x.stack < r.depth = (numbered_as 20 z).short z in omega (arith, shallow), short-from);
              refusals = λ z. (facts z).one_of;
              never-short = λ h. (λ z. let k : room_in x.stack < r.depth = (numbered_as 20 z).short z in omega (arith, deep), λ z. let k : room_in x.stack < M.limit = (numbered_as 21 z).full z in omega arith);
              never-full = never-full t q r x.stack x.allowance x.buffer C;
            }

  module _ (cells upper lower : List ℕ) where
    -- a call on a run of the task that is asked, with the table that cells hold
    on_call : (es : List Entry) (r : Run) (used : List ℕ) (x : Lent) → asked cells r.task upper lower r.ceiling ≡ runs t q → loaded x.table ≡ loaded cells → At r used es
        → (r.depth ≤ frames_in x.stack → used_of r.depth x.stack ≡ used) → OneCall es r used x (call_on upper lower r x)
    unfolding outcome
    on_call es r used x a h A J =
        subst (λ (w : Asked). OneCall es r used x (outcome_of w r x.stack x.allowance x.buffer)) (sym (same_asked x.table cells h r.task upper lower r.ceiling ∙ a))
        (one es r used x A J)

    pub record SessionLaw (es : List Entry) (n : ℕ) (r : Run) (xs : List Lent) : Type 0 where
      pub taken : List Entry
      pub left : List Entry
      pub splits : es ≡ taken ++ left
      pub counted : length taken ≡ steps_told upper lower r xs
      pub read : readings M taken ≡ received upper lower r xs
      pub tells : Tells upper lower t q n r xs

    joined : (x : Lent) (xs : List Lent) (es : List Entry) (r : Run) (used : List ℕ) (n : ℕ) → n + length es ≡ tree_size M → (O : OneCall es r used x (call_on upper lower r x))
        → SessionLaw O.left (n + steps_on upper lower r x) (run_after upper lower r x) xs → SessionLaw es n r (x ∷ xs)
    joined x xs es r used n e O S =
        record {
          taken = O.taken ++ S.taken;
          left = S.left;
          splits = O.splits ∙ rw append_assoc (ap (λ (l : List Entry). O.taken ++ l) S.splits);
          counted = length-append O.taken S.taken ∙ ap₂ ◌+◌ O.counted S.counted;
          read = readings-append M O.taken S.taken ∙ ap₂ (λ (a b : List (List ℕ)). a ++ b) O.read S.read;
          tells = (O.tells n e, S.tells);
        }

    session : (xs : List Lent) (es : List Entry) (r : Run) (used : List ℕ) (n : ℕ) → asked cells r.task upper lower r.ceiling ≡ runs t q → At r used es → Handed upper lower cells r used xs
        → n + length es ≡ tree_size M → SessionLaw es n r xs
    unfolding readings
    session [] es r used n a A J e = record { taken = []; left = es; splits = refl; counted = refl; read = refl; tells = tt }
    session (x ∷ xs) es r used n a A J e =
        let O : OneCall es r used x (call_on upper lower r x) = on_call es r used x a J.0 A J.1 in
        joined x xs es r used n e O
        (session xs O.left (run_after upper lower r x) (used_after upper lower r used x) (n + steps_on upper lower r x) (ap₂ (λ (k c : ℕ). asked cells k upper lower c) O.same-task O.same-ceiling ∙ a) O.at J.2
        (omega (arith, ap length O.splits ∙ length-append O.taken O.left, O.counted)))

    pub demand_3 : (task ceiling : ℕ) → asked cells task upper lower ceiling ≡ runs t q → (xs : List Lent) → Handed upper lower cells (first_run task ceiling) [] xs → Demand3 upper lower t q (first_run task ceiling) xs
    unfolding tour
    demand_3 task ceiling a xs J =
        record {
          same-readings = sym S.read ∙ ap (readings M) (sym (take-append_seam S.taken S.left) ∙ ap₂ (λ (n : ℕ) (es : List Entry). take n es) S.counted (sym S.splits));
          inside-tree = omega (arith, S.counted, tree_law M, ap length S.splits ∙ length-append S.taken S.left);
          tells = S.tells;
        }
      where
        begin : At (first_run task ceiling) [] (tour M)
        begin =
            record {
              frames = [];
              placed = omega arith;
              as_deep = refl;
              held = λ c h u. refl;
              left = ap (λ (k : ℕ). tour_from M (after M) 0 k) (sub-zero (length M.initials));
            }

        S : SessionLaw (tour M) 0 (first_run task ceiling) xs
        S = session xs (tour M) (first_run task ceiling) [] 0 a begin J (omega (arith, tree_law M))

-- what CallTells says of a call has one solution
pub call-tells-one : (t : Table) (q : Query) (n : ℕ) (r : Run) (x : Lent) (o v : Outcome) → CallTells t q n r x o → CallTells t q n r x v → o ≡ v
call-tells-one t q n r x o v A B = by_call t q r x.stack x.allowance x.buffer A.by-steps ∙ sym (by_call t q r x.stack x.allowance x.buffer B.by-steps)

-- where the steps told are the tree's size, the readings received are all of them
pub whole-list : (upper lower : List ℕ) (t : Table) (q : Query) (r : Run) (xs : List Lent) → Demand3 upper lower t q r xs
    → steps_told upper lower r xs ≡ tree_size (machine t q) → received upper lower r xs ≡ readings (machine t q) (tour (machine t q))
whole-list upper lower t q r xs D e =
    D.same-readings ∙ ap (readings (machine t q)) (ap (λ (n : ℕ). take n (tour (machine t q))) (e ∙ sym (tree_law (machine t q))) ∙ take-length (tour (machine t q)))

-- where the last call answers Ended, the steps told are the tree's size
pub ended-steps : (upper lower : List ℕ) (t : Table) (q : Query) (xs : List Lent) (n : ℕ) (r : Run) → Tells upper lower t q n r xs → LastEnds upper lower r xs
    → n + steps_told upper lower r xs ≡ tree_size (machine t q)
ended-steps upper lower t q [] n r T e = absurd e
ended-steps upper lower t q (x ∷ []) n r T e = let f = T.0.ended_is.0 e in omega arith
ended-steps upper lower t q (x ∷ y ∷ ys) n r T e =
    let f = ended-steps upper lower t q (y ∷ ys) (n + steps_on upper lower r x) (run_after upper lower r x) T.1 e in omega arith
