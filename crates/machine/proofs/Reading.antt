-- The call for a reading: replies as answers, and what a refused call leaves.
use Prim.Native.Nat.{ℕ, suc, ◌+◌, ◌≤◌}
use native.Mathlib.Omega.{arith}
use mathlib.Core.Path.{◌≡◌, refl, sym, ap, ap₂, subst, ◌∙◌}
use mathlib.Core.Logic.{◌↔◌, inl, inr, ⊎_elim}
use mathlib.Core.Bool.{Bool, true, false}
use mathlib.Core.List.{List, []}
use lib.ListN.{length, drop}
use lib.Seq.{take-append_seam, drop-append_seam}
use Rattle.refusal.specs.declared.Refusal.{Refusal}
use Rattle.refusal.specs.declared.Refusal.TheVariants.{State}
use Rattle.refusal.specs.declared.StateCause.TheVariants.{Place}
use Rattle.table_format.specs.Table.{Table}
use Rattle.table_format.specs.Loaded.{loaded}
use Rattle.refusal.specs.Refusal.{number_of}
use Rattle.machine.specs.declared.Run.{Run}
use Rattle.machine.specs.declared.Answer.{Answer}
use Rattle.machine.specs.declared.Answer.TheVariants.{Refused}
use Rattle.machine.specs.declared.Called.{Called}
use Rattle.machine.specs.Query.{Query}
use Rattle.machine.specs.Machine.{Machine, Path, accepts, output, Allowed}
use Rattle.machine.specs.Frames.{Frame, Store, Held, place_holds}
use Rattle.machine.specs.Place.{Good, InSearch}
use Rattle.machine.specs.Call.{Reply, entered, call}
use Rattle.machine.specs.Call as R
use Rattle.machine.specs.Tour.{Entry}
use Rattle.machine.specs.Transducer.{machine}
use Rattle.machine.specs.Stack.{room_in, store}
use Rattle.refusal.specs.Told.{found_kind, ended_kind, refused_kind}
use Rattle.machine.specs.Answer.{told, output_told}
use Rattle.machine.specs.Asked.{Asked, turned, runs, asked}
use Rattle.machine.specs.Reading.{Outcome, told_by, held_of, answer_as, output_as, outcome_as, outcome_of, outcome, OutcomeIs, Unchanged, BeforeStep, RefusedLeaves, CallBy, no_place, goes_on}
use Rattle.machine.proofs.Told.{told-one}
use Rattle.machine.proofs.Frames.{place-placed, placed-place}
use Rattle.machine.proofs.Call.{EndLaw, outs, no_place-call, in_place-call, place-call}
use Rattle.machine.proofs.Stops.{step-full, steps-good, advance-stops, stops-advance, stops-one}
use Rattle.machine.proofs.Held.{GoodStep, step-good}
use Rattle.machine.proofs.Stack.{same-is, store_laws}
use Rattle.machine.proofs.Asked.{TurnedBy, turned_by, same_asked}

-- Replies as answers.

pub steps-is : (a : Reply) (n : ℕ) → (told (answer_as a n)).steps ≡ n
steps-is (R.found o) n = refl
steps-is R.paused n = refl
steps-is R.ended n = refl
steps-is (R.refused r) n = refl

pub told_is : (a : Reply) (n : ℕ) (b : List ℕ) → output_told (told (answer_as a n)) (output_as a b) ≡ outs a
told_is (R.found o) n b = rw take-append_seam
told_is R.paused n b = refl
told_is R.ended n b = refl
told_is (R.refused r) n b = refl

pub end_is : (a : Reply) (n : ℕ) (es : List Entry) → EndLaw a es → ((told (answer_as a n)).kind ≡ ended_kind) ↔ (es ≡ [])
end_is (R.found o) n es E = (λ e. absurd (omega arith), λ e. absurd (E e))
end_is R.paused n es E = (λ e. absurd (omega arith), λ e. absurd (E e))
end_is R.ended n es E = (λ e. E, λ e. refl)
end_is (R.refused r) n es E = (λ e. absurd (omega arith), λ e. absurd (E e))

-- an answer of that kind, or with a number, refuses
pub refused_kind_lem : (a : Reply) (n : ℕ) → (told (answer_as a n)).kind ≡ refused_kind → (c : Refusal) × (a ≡ R.refused c) × (number_of c ≡ (told (answer_as a n)).number)
refused_kind_lem (R.found o) n e = absurd (omega arith)
refused_kind_lem R.paused n e = absurd (omega arith)
refused_kind_lem R.ended n e = absurd (omega arith)
refused_kind_lem (R.refused r) n e = (r, refl, refl)

pub refused-number : (a : Reply) (n m : ℕ) → (told (answer_as a n)).number ≡ suc m → (told (answer_as a n)).kind ≡ refused_kind
refused-number (R.found o) n m e = absurd (omega arith)
refused-number R.paused n m e = absurd (omega arith)
refused-number R.ended n m e = absurd (omega arith)
refused-number (R.refused r) n m e = refl

-- What a call ensures, as an equation of its result and back.

pub outcome-called : {x : Outcome} {c : Called} {stack output : List ℕ} → OutcomeIs x (told c.answer) c.run stack output → c ≡ x.called
outcome-called {x} {c} I = λ i. record { answer = told-one c.answer x.called.answer I.answer-is i; run = I.run_is i }

pub called-outcome : {x : Outcome} {c : Called} {stack output : List ℕ} → c ≡ x.called → stack ≡ x.stack → output ≡ x.output
    → OutcomeIs x (told c.answer) c.run stack output
called-outcome e s o = record { answer-is = ap (λ (c : Called). told c.answer) e; run_is = ap (λ (c : Called). c.run) e; stack_is = s; output-is = o }

-- 21 is given exactly where the run and the stack are not a place in a search.

-- all that a call gives with it
abbrev place_refused : Run → List ℕ → List ℕ → Outcome
place_refused run stack buffer = record { called = record { answer = Refused 0 (State Place); run = run }; stack = stack; output = buffer }

module _ (t : Table) (q : Query) (run : Run) (stack : List ℕ) where
  in_search : place_holds (machine t q) store (held_of run stack) ≡ true → InSearch t q run stack
  in_search e =
      let P = place-placed (machine t q) (same-is t q) store (held_of run stack) e in
      let h : run.depth ≤ room_in stack = P.0 in
      record { in_stack = omega arith; in_limit = omega arith; placed = P.1 }

  pub search_place : InSearch t q run stack → place_holds (machine t q) store (held_of run stack) ≡ true
  search_place I = placed-place (machine t q) (same-is t q) store (held_of run stack) (omega (arith, I.in_stack, I.in_limit)) I.placed

  module _ (n : ℕ) (buffer : List ℕ) where
    abbrev o : Outcome
    o = outcome_of (runs t q) run stack n buffer

    placed-number : InSearch t q run stack → (told_by o).number ≡ 21 → ⊥
    placed-number I e =
        let T = call (machine t q) store n (length buffer) (held_of run stack) in
        let A = refused_kind_lem T.reply T.steps (refused-number T.reply T.steps 20 e) in
        ⊎_elim (λ s. let z : 22 ≡ 21 = ap number_of (sym s) ∙ A.2 ∙ e in omega arith) (λ s. let z : 23 ≡ 21 = ap number_of (sym s) ∙ A.2 ∙ e in omega arith)
        (place-call (machine t q) store n (length buffer) (held_of run stack) (search_place I) A.0 A.1)

    unplaced : (InSearch t q run stack → ⊥) → o ≡ place_refused run stack buffer
    unplaced h = go (place_holds (machine t q) store (held_of run stack)) refl
      where
        go : (b : Bool) → place_holds (machine t q) store (held_of run stack) ≡ b → o ≡ place_refused run stack buffer
        go true p = absurd (h (in_search p))
        go false p = ap (outcome_as run buffer) (no_place-call (machine t q) store n (length buffer) (held_of run stack) p)

    -- the outcome is the one solution of CallBy
    pub call_by : CallBy t q run stack n buffer o
    unfolding call
    call_by = go (place_holds (machine t q) store (held_of run stack)) refl
      where
        go : (b : Bool) → place_holds (machine t q) store (held_of run stack) ≡ b → CallBy t q run stack n buffer (outcome_as run buffer (entered (machine t q) store b n (length buffer) (held_of run stack)))
        go true p = goes_on (in_search p) (advance-stops (machine t q) store (length buffer) n (held_of run stack))
        go false p = no_place (λ I. let z : true ≡ false = sym (search_place I) ∙ p in let y : ◌≡◌ {A = ℕ} 0 1 = cc in omega arith)

    pub by_call : {v : Outcome} → CallBy t q run stack n buffer v → v ≡ o
    by_call (no_place f) = sym (unplaced f)
    by_call (goes_on I s) =
        ap (outcome_as run buffer) (stops-advance (machine t q) store (length buffer) s ∙ sym (in_place-call (machine t q) store n (length buffer) (held_of run stack) (search_place I)))

module _ (cells upper lower : List ℕ) (run : Run) (stack : List ℕ) (n : ℕ) (buffer : List ℕ) where
  pub twenty_one : ((told_by (outcome cells upper lower run stack n buffer)).number ≡ 21)
      ↔ ((t : Table) × (q : Query) × (asked cells run.task upper lower run.ceiling ≡ runs t q) × (InSearch t q run stack → ⊥))
  unfolding outcome
  twenty_one = (
    to (asked cells run.task upper lower run.ceiling) refl (turned_by cells run.task upper lower run.ceiling),
    λ w. subst (λ (z : Asked). (told_by (outcome_of z run stack n buffer)).number ≡ 21) (sym w.2) (ap (λ (v : Outcome). (told_by v).number) (unplaced w.0 w.1 run stack n buffer w.3)),
  )
    where
      to : (z : Asked) → asked cells run.task upper lower run.ceiling ≡ z → TurnedBy z → (told_by (outcome_of z run stack n buffer)).number ≡ 21
          → (t : Table) × (q : Query) × (asked cells run.task upper lower run.ceiling ≡ runs t q) × (InSearch t q run stack → ⊥)
      to (turned r) a N e = absurd (⊎_elim (λ x. omega arith) (⊎_elim (λ x. omega arith) (⊎_elim (λ x. omega arith) (λ x. omega arith))) N)
      to (runs t q) a N e = (t, q, a, λ I. placed-number t q run stack n buffer I e)

  pub twenty_one-leaves : (told_by (outcome cells upper lower run stack n buffer)).number ≡ 21 → outcome cells upper lower run stack n buffer ≡ place_refused run stack buffer
  unfolding outcome
  twenty_one-leaves e =
      let w = twenty_one.0 e in
      ap (λ (z : Asked). outcome_of z run stack n buffer) w.2 ∙ unplaced w.0 w.1 run stack n buffer w.3

-- What a refused call leaves.

leaves_by : (t : Table) (q : Query) (run : Run) (stack : List ℕ) (n : ℕ) (buffer : List ℕ) {o : Outcome} → CallBy t q run stack n buffer o → (told_by o).kind ≡ refused_kind
    → RefusedLeaves (runs t q) run stack buffer o
leaves_by t q run stack n buffer (no_place f) e = (refl, refl, refl, inl (f, (refl, refl, refl)))
leaves_by t q run stack n buffer (goes_on I (R.at_end_lem s k z)) e = absurd (omega arith)
leaves_by t q run stack n buffer (goes_on I (R.at-reading w s k z)) e = absurd (omega arith)
leaves_by t q run stack n buffer (goes_on I (R.at-allowance s z)) e = absurd (omega arith)
leaves_by t q run stack n buffer (goes_on I (R.at-refusal c s k z)) e = (refl, refl, refl, inr (I, record { refusal = c; is-refused = refl; steps-made = s; refused-there = z }))

pub refused-leaves : (cells upper lower : List ℕ) (run : Run) (stack : List ℕ) (n : ℕ) (buffer : List ℕ)
    → (told_by (outcome cells upper lower run stack n buffer)).kind ≡ refused_kind → RefusedLeaves (asked cells run.task upper lower run.ceiling) run stack buffer (outcome cells upper lower run stack n buffer)
unfolding outcome
refused-leaves cells upper lower run stack n buffer e = go (asked cells run.task upper lower run.ceiling) e
  where
    go : (w : Asked) → (told_by (outcome_of w run stack n buffer)).kind ≡ refused_kind → RefusedLeaves w run stack buffer (outcome_of w run stack n buffer)
    go (turned r) e = (refl, (refl, refl, refl))
    go (runs t q) e = leaves_by t q run stack n buffer (call_by t q run stack n buffer) e

-- And nothing else is left so.

same_parts : (o v : Outcome) → o.called.answer ≡ v.called.answer → o.called.run.task ≡ v.called.run.task → o.called.run.ceiling ≡ v.called.run.ceiling
    → held_of o.called.run o.stack ≡ held_of v.called.run v.stack → o.output ≡ v.output → o ≡ v
same_parts o v a k c h b =
    λ i.
    record {
      called = record { answer = a i; run = record { task = k i; started = (h i).started; depth = (h i).depth; ceiling = c i } };
      stack = (h i).cells;
      output = b i;
    }

unchanged-one : (c : Refusal) (run : Run) (stack : List ℕ) (o v : Outcome) → Unchanged c run stack o → Unchanged c run stack v → o.output ≡ v.output → o ≡ v
unchanged-one c run stack o v O W b =
    same_parts o v (O.0 ∙ sym W.0) (ap (λ (r : Run). r.task) (O.1 ∙ sym W.1)) (ap (λ (r : Run). r.ceiling) (O.1 ∙ sym W.1)) (ap₂ held_of (O.1 ∙ sym W.1) (O.2 ∙ sym W.2)) b

before-one : (M : Machine) (S : Store (Frame M.D)) (l : ℕ) (h d e : Held S.Cells) (a b : Answer) → BeforeStep M S l h d a → BeforeStep M S l h e b → (a ≡ b) × (d ≡ e)
before-one M S l h d e a b A B =
    let z = stops-one M S l {n = suc ((told a).steps + (told b).steps)} (R.at-refusal A.refusal A.steps-made (omega arith) A.refused-there)
    (R.at-refusal B.refusal B.steps-made (omega arith) B.refused-there) in
    let k : (told a).steps ≡ (told b).steps = ap (λ (r : R.Replied S.Cells). r.steps) z in
    let y : R.refused A.refusal ≡ R.refused B.refusal = ap (λ (r : R.Replied S.Cells). r.reply) z in
    let c : A.refusal ≡ B.refusal = cc in (A.is-refused ∙ ap₂ Refused k c ∙ sym B.is-refused, ap (λ (r : R.Replied S.Cells). r.after) z)

pub refused-leaves-one : (w : Asked) (run : Run) (stack buffer : List ℕ) (o v : Outcome) → RefusedLeaves w run stack buffer o → RefusedLeaves w run stack buffer v → o ≡ v
refused-leaves-one (turned c) run stack buffer o v O W = unchanged-one c run stack o v O.1 W.1 (O.0 ∙ sym W.0)
refused-leaves-one (runs t q) run stack buffer o v O W =
    ⊎_elim (λ x. ⊎_elim (λ y. unchanged-one (State Place) run stack o v x.1 y.1 (O.0 ∙ sym W.0)) (λ y. absurd (x.0 y.0)) W.3)
    (λ x. ⊎_elim (λ y. absurd (y.0 x.0)) (λ y. let z = before-one (machine t q) store (length buffer) (held_of run stack) (held_of o.called.run o.stack) (held_of v.called.run v.stack) o.called.answer v.called.answer x.1 y.1 in same_parts o v z.0 (O.1 ∙ sym W.1) (O.2 ∙ sym W.2) z.1 (O.0 ∙ sym W.0)) W.3)
    O.3

-- 23 is given only where some reading is longer than the buffer
pub never-full : (t : Table) (q : Query) (run : Run) (stack : List ℕ) (n : ℕ) (buffer : List ℕ) {o : Outcome} → CallBy t q run stack n buffer o
    → ((p : Path) → Allowed (machine t q) p → accepts (machine t q) p ≡ true → length (output (machine t q) p) ≤ length buffer) → (told_by o).number ≡ 23 → ⊥
never-full t q run stack n buffer (no_place f) B e = omega arith
never-full t q run stack n buffer (goes_on I (R.at_end_lem s k z)) B e = omega arith
never-full t q run stack n buffer (goes_on I (R.at-reading w s k z)) B e = omega arith
never-full t q run stack n buffer (goes_on I (R.at-allowance s z)) B e = omega arith
never-full t q run stack n buffer (goes_on I (R.at-refusal {d = d} c s k z)) B e =
    ⊎_elim (λ x. let y : ◌≡◌ {A = ℕ} 22 23 = ap number_of (sym x) ∙ e in omega arith) (λ x. let W = subst (GoodStep (machine t q) store store_laws (room_in stack) (length buffer)) z (step-good (machine t q) store store_laws (room_in stack) (length buffer) d G) x in omega (arith, W.3, B W.0 W.1 W.2))
    (step-full (machine t q) store (length buffer) d c z)
  where
    G : Good (machine t q) store (room_in stack) d
    G = steps-good (machine t q) store (length buffer) store_laws (room_in stack) s (record { placed = I.placed; deep = omega (arith, I.in_stack, I.in_limit); room = refl })

-- a call on what is asked, for any run, stack, allowance and buffer, is the one that CallBy tells
pub call-is : (cells upper lower : List ℕ) (run : Run) (stack : List ℕ) (n : ℕ) (buffer : List ℕ) (t : Table) (q : Query) → asked cells run.task upper lower run.ceiling ≡ runs t q → (o : Outcome)
    → CallBy t q run stack n buffer o ↔ (o ≡ outcome cells upper lower run stack n buffer)
unfolding outcome
call-is cells upper lower run stack n buffer t q a o = (
  λ c. by_call t q run stack n buffer c ∙ same,
  λ e. subst (λ (v : Outcome). CallBy t q run stack n buffer v) (sym (e ∙ sym same)) (call_by t q run stack n buffer),
)
  where
    same : outcome_of (runs t q) run stack n buffer ≡ outcome_of (asked cells run.task upper lower run.ceiling) run stack n buffer
    same = ap (λ (w : Asked). outcome_of w run stack n buffer) (sym a)

-- of the cells, the loaded table alone counts
pub same_outcome : (c d : List ℕ) → loaded c ≡ loaded d → (upper lower : List ℕ) (run : Run) (stack : List ℕ) (n : ℕ) (buffer : List ℕ)
    → outcome c upper lower run stack n buffer ≡ outcome d upper lower run stack n buffer
unfolding outcome
same_outcome c d e upper lower run stack n buffer = ap (λ (w : Asked). outcome_of w run stack n buffer) (same_asked c d e run.task upper lower run.ceiling)

-- only Found writes output, from the front, and leaves the rest
pub buffer-left : (cells upper lower : List ℕ) (run : Run) (stack : List ℕ) (n : ℕ) (buffer : List ℕ) → ((told_by (outcome cells upper lower run stack n buffer)).kind ≡ found_kind → ⊥)
    → (outcome cells upper lower run stack n buffer).output ≡ buffer
unfolding outcome
buffer-left cells upper lower run stack n buffer h = go (asked cells run.task upper lower run.ceiling) h
  where
    reply : (a : Reply) (k : ℕ) → ((told (answer_as a k)).kind ≡ found_kind → ⊥) → output_as a buffer ≡ buffer
    reply (R.found o) k f = absurd (f refl)
    reply R.paused k f = refl
    reply R.ended k f = refl
    reply (R.refused c) k f = refl

    go : (w : Asked) → ((told_by (outcome_of w run stack n buffer)).kind ≡ found_kind → ⊥) → (outcome_of w run stack n buffer).output ≡ buffer
    go (turned c) f = refl
    go (runs t q) f = let T = call (machine t q) store n (length buffer) (held_of run stack) in reply T.reply T.steps f

pub found_left : (cells upper lower : List ℕ) (run : Run) (stack : List ℕ) (n : ℕ) (buffer : List ℕ) → (told_by (outcome cells upper lower run stack n buffer)).kind ≡ found_kind
    → drop (told_by (outcome cells upper lower run stack n buffer)).length (outcome cells upper lower run stack n buffer).output ≡ drop (told_by (outcome cells upper lower run stack n buffer)).length buffer
unfolding outcome
found_left cells upper lower run stack n buffer h = go (asked cells run.task upper lower run.ceiling) h
  where
    reply : (a : Reply) (k : ℕ) → (told (answer_as a k)).kind ≡ found_kind → drop (told (answer_as a k)).length (output_as a buffer) ≡ drop (told (answer_as a k)).length buffer
    reply (R.found o) k e = drop-append_seam o (drop (length o) buffer)
    reply R.paused k e = absurd (omega arith)
    reply R.ended k e = absurd (omega arith)
    reply (R.refused c) k e = absurd (omega arith)

    go : (w : Asked) → (told_by (outcome_of w run stack n buffer)).kind ≡ found_kind
        → drop (told_by (outcome_of w run stack n buffer)).length (outcome_of w run stack n buffer).output ≡ drop (told_by (outcome_of w run stack n buffer)).length buffer
    go (turned c) e = absurd (omega arith)
    go (runs t q) e = let T = call (machine t q) store n (length buffer) (held_of run stack) in reply T.reply T.steps e

-- Any call leaves the run its task and its ceiling.
pub run_keeps : (cells upper lower : List ℕ) (run : Run) (stack : List ℕ) (n : ℕ) (buffer : List ℕ)
    → ((outcome cells upper lower run stack n buffer).called.run.task ≡ run.task) × ((outcome cells upper lower run stack n buffer).called.run.ceiling ≡ run.ceiling)
unfolding outcome
run_keeps cells upper lower run stack n buffer = go (asked cells run.task upper lower run.ceiling)
  where
    go : (w : Asked) → ((outcome_of w run stack n buffer).called.run.task ≡ run.task) × ((outcome_of w run stack n buffer).called.run.ceiling ≡ run.ceiling)
    go (turned r) = (refl, refl)
    go (runs t q) = (refl, refl)
