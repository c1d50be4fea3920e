-- 39 is given exactly where 20, 11 and 10 are not and the ceiling is over 100,000; all is then as it was.
use Prim.Native.Nat.{ℕ, ◌<◌}
use native.Mathlib.Omega.{arith}
use mathlib.Core.Path.{◌≡◌, refl, sym, ap, ◌∙◌}
use mathlib.Core.Logic.{◌↔◌, ⊎_elim}
use mathlib.Core.Bool.{Bool, true, false, cond}
use mathlib.Core.Option.{Option, none, some}
use mathlib.Core.List.{List, []}
use lib.ListN.{length}
use lib.Dec.{leb}
use borrow.Author.Tests.{leb-false, lt-leb}
use Rattle.refusal.specs.declared.Refusal.{Refusal}
use Rattle.refusal.specs.declared.Refusal.TheVariants.{Input, State}
use Rattle.refusal.specs.declared.InputCause.TheVariants.{WordFault, TaskFault, CeilingLimit}
use Rattle.refusal.specs.declared.StateCause.TheVariants.{LoadedTable}
use Rattle.refusal.specs.Refusal.{number_of}
use Rattle.refusal.proofs.Numbers.{number-one}
use Rattle.table_format.specs.Table.{Table}
use Rattle.table_format.specs.Loaded.{loaded}
use Rattle.machine.specs.declared.Run.{Run}
use Rattle.machine.specs.declared.Answer.TheVariants as A
use Rattle.machine.specs.declared.StartAnswer.TheVariants.{Refused}
use Rattle.machine.specs.declared.Started.{Started}
use Rattle.machine.specs.Query.{Task, task_of, Query, words_hold, sides_hold, most_ceiling}
use Rattle.machine.specs.Call as R
use Rattle.machine.specs.Transducer.{machine}
use Rattle.machine.specs.Stack.{store}
use Rattle.machine.specs.Idle.{has_idle_cycle}
use Rattle.machine.specs.Asked.{Asked, turned, runs, asked_task, asked_table, asked}
use Rattle.machine.specs.Start.{first_run, no_run, started_with, by_test, started, start_told_by, StartedIs}
use Rattle.machine.specs.Reading.{Outcome, told_by, outcome_of, outcome, CallBy, no_place, goes_on}
use Rattle.machine.proofs.Stops.{step-full}
use Rattle.machine.proofs.Start.{start_is, started_by_lem, turned_as}
use Rattle.machine.proofs.Reading.{call_by}

abbrev limit : Asked
limit = turned (Input CeilingLimit)

-- What is asked.

module _ (upper lower : List ℕ) (ceiling : ℕ) where
  abbrev query : Task → ℕ → Query
  query k c = record { task = k; upper_word = upper; lower_word = lower; ceiling = c }

  -- the ceiling plays no part in what is asked of the words
  abbrev by_tests : Table → Task → ℕ → Bool → Bool → Bool → Asked
  by_tests t k c sides words over = cond sides (cond words (cond over (runs t (query k c)) limit) (turned (Input WordFault))) (turned (Input TaskFault))

  tests_to : (t : Table) (k : Task) (a b c : Bool) → by_tests t k ceiling a b c ≡ limit → (by_tests t k 0 a b true ≡ runs t (query k 0)) × (c ≡ false)
  tests_to t k true true true e = absurd (let z : ◌≡◌ {A = ℕ} 0 1 = cc in omega arith)
  tests_to t k true true false e = (refl, refl)
  tests_to t k true false c e = absurd (let z : ◌≡◌ {A = ℕ} 0 1 = cc in omega arith)
  tests_to t k false b c e = absurd (let z : ◌≡◌ {A = ℕ} 0 1 = cc in omega arith)

  tests_from : (t u : Table) (k : Task) (q : Query) (a b : Bool) → by_tests t k 0 a b true ≡ runs u q → by_tests t k ceiling a b false ≡ limit
  tests_from t u k q true true e = refl
  tests_from t u k q true false e = absurd (let z : ◌≡◌ {A = ℕ} 0 1 = cc in omega arith)
  tests_from t u k q false b e = absurd (let z : ◌≡◌ {A = ℕ} 0 1 = cc in omega arith)

  task-to : (t : Table) (o : Option Task) → asked_task t o upper lower ceiling ≡ limit → (u : Table) × (q : Query) × (asked_task t o upper lower 0 ≡ runs u q) × (most_ceiling < ceiling)
  task-to t none e = absurd (let z : ◌≡◌ {A = ℕ} 0 1 = cc in omega arith)
  task-to t (some k) e =
      let P = tests_to t k (sides_hold (query k 0)) (words_hold (query k 0)) (leb ceiling most_ceiling) e in
      (t, query k 0, P.0, leb-false ceiling most_ceiling P.1)

  task-from : (t u : Table) (o : Option Task) (q : Query) → asked_task t o upper lower 0 ≡ runs u q → most_ceiling < ceiling → asked_task t o upper lower ceiling ≡ limit
  task-from t u none q e h = absurd (let z : ◌≡◌ {A = ℕ} 0 1 = cc in omega arith)
  task-from t u (some k) q e h =
      ap (by_tests t k ceiling (sides_hold (query k 0)) (words_hold (query k 0))) (lt-leb ceiling most_ceiling h)
      ∙ tests_from t u k q (sides_hold (query k 0)) (words_hold (query k 0)) e

  pub limit-asked : (cells : List ℕ) (task : ℕ) → (asked cells task upper lower ceiling ≡ limit) ↔ ((t : Table) × (q : Query) × (asked cells task upper lower 0 ≡ runs t q) × (most_ceiling < ceiling))
  unfolding asked
  limit-asked cells task = go (loaded cells)
    where
      go : (o : Option Table) → (asked_table o task upper lower ceiling ≡ limit) ↔ ((t : Table) × (q : Query) × (asked_table o task upper lower 0 ≡ runs t q) × (most_ceiling < ceiling))
      go none = (λ e. absurd (let z : ◌≡◌ {A = ℕ} 0 1 = cc in omega arith), λ w. absurd (clash w.0 w.1 w.2))
        where
          clash : (t : Table) (q : Query) → turned (State LoadedTable) ≡ runs t q → ⊥
          clash t q e = let z : ◌≡◌ {A = ℕ} 0 1 = cc in omega arith
      go (some t) = (task-to t (task_of task), λ w. task-from t w.0 (task_of task) w.1 w.2 w.3)

-- A refusal with that number is it.
limit-number : (r : Refusal) → number_of r ≡ 39 → turned r ≡ limit
limit-number r e = ap turned (number-one r (Input CeilingLimit) e)

-- The start.

module _ (cells : List ℕ) (task : ℕ) (upper lower : List ℕ) (ceiling : ℕ) (s : Started) (S : StartedIs (started cells task upper lower ceiling) s) where
  start-asked : (start_told_by s).number ≡ 39 → asked cells task upper lower ceiling ≡ limit
  start-asked e = go (asked cells task upper lower ceiling) refl
    where
      go : (z : Asked) → asked cells task upper lower ceiling ≡ z → asked cells task upper lower ceiling ≡ limit
      go (turned r) a = a ∙ limit-number r (ap (λ (x : Started). (start_told_by x).number) (sym (turned_as cells task upper lower ceiling s S r a)) ∙ e)
      go (runs t q) a = absurd (ready (has_idle_cycle t q.task) (ap (λ (x : Started). (start_told_by x).number) (sym (start_is {x = started cells task upper lower ceiling} {s = s} S ∙ started_by_lem cells task upper lower ceiling t q a (has_idle_cycle t q.task) refl)) ∙ e))
        where
          ready : (b : Bool) → (start_told_by (by_test t q (first_run task ceiling) b)).number ≡ 39 → ⊥
          ready true h = omega arith
          ready false h = omega arith

  pub thirty_nine_start : ((start_told_by s).number ≡ 39) ↔ ((t : Table) × (q : Query) × (asked cells task upper lower 0 ≡ runs t q) × (most_ceiling < ceiling))
  thirty_nine_start = (
    λ e. (limit-asked upper lower ceiling cells task).0 (start-asked e),
    λ w. ap (λ (x : Started). (start_told_by x).number) (turned_as cells task upper lower ceiling s S (Input CeilingLimit) ((limit-asked upper lower ceiling cells task).1 w)),
  )

  pub start-leaves : (start_told_by s).number ≡ 39 → s ≡ started_with (Refused (Input CeilingLimit)) no_run []
  start-leaves e = turned_as cells task upper lower ceiling s S (Input CeilingLimit) (start-asked e)

-- The call.

call-number : (t : Table) (q : Query) (run : Run) (stack : List ℕ) (n : ℕ) (buffer : List ℕ) {o : Outcome} → CallBy t q run stack n buffer o → (told_by o).number ≡ 39 → ⊥
call-number t q run stack n buffer (no_place f) e = omega arith
call-number t q run stack n buffer (goes_on I (R.at_end_lem s k z)) e = omega arith
call-number t q run stack n buffer (goes_on I (R.at-reading w s k z)) e = omega arith
call-number t q run stack n buffer (goes_on I (R.at-allowance s z)) e = omega arith
call-number t q run stack n buffer (goes_on I (R.at-refusal {d = d} c s k z)) e =
    ⊎_elim (λ x. let y : ◌≡◌ {A = ℕ} 22 39 = ap number_of (sym x) ∙ e in omega arith) (λ x. let y : ◌≡◌ {A = ℕ} 23 39 = ap number_of (sym x) ∙ e in omega arith)
    (step-full (machine t q) store (length buffer) d c z)

module _ (cells upper lower : List ℕ) (run : Run) (stack : List ℕ) (n : ℕ) (buffer : List ℕ) where
  abbrev unchanged : Outcome
  unchanged = record { called = record { answer = A.Refused 0 (Input CeilingLimit); run = run }; stack = stack; output = buffer }

  call-asked : (told_by (outcome cells upper lower run stack n buffer)).number ≡ 39 → asked cells run.task upper lower run.ceiling ≡ limit
  unfolding outcome
  call-asked e = go (asked cells run.task upper lower run.ceiling) refl e
    where
      go : (z : Asked) → asked cells run.task upper lower run.ceiling ≡ z → (told_by (outcome_of z run stack n buffer)).number ≡ 39 → asked cells run.task upper lower run.ceiling ≡ limit
      go (turned r) a h = a ∙ limit-number r h
      go (runs t q) a h = absurd (call-number t q run stack n buffer (call_by t q run stack n buffer) h)

  call-limit : asked cells run.task upper lower run.ceiling ≡ limit → outcome cells upper lower run stack n buffer ≡ unchanged
  unfolding outcome
  call-limit a = ap (λ (z : Asked). outcome_of z run stack n buffer) a

  pub thirty_nine_call : ((told_by (outcome cells upper lower run stack n buffer)).number ≡ 39)
      ↔ ((t : Table) × (q : Query) × (asked cells run.task upper lower 0 ≡ runs t q) × (most_ceiling < run.ceiling))
  thirty_nine_call = (
    λ e. (limit-asked upper lower run.ceiling cells run.task).0 (call-asked e),
    λ w. ap (λ (o : Outcome). (told_by o).number) (call-limit ((limit-asked upper lower run.ceiling cells run.task).1 w)),
  )

  pub call-leaves : (told_by (outcome cells upper lower run stack n buffer)).number ≡ 39 → outcome cells upper lower run stack n buffer ≡ unchanged
  call-leaves e = call-limit (call-asked e)
