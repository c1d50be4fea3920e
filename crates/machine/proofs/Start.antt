-- What a start tells: where it is ready, all that demand 3 uses; 12 exactly where an idle cycle is reached, with the one that is to be shown.
use Prim.Native.Nat.{ℕ, ◌-◌, ◌≤◌}
use native.Mathlib.Omega.{arith}
use mathlib.Core.Path.{◌≡◌, refl, sym, ap, subst, ◌∙◌}
use mathlib.Core.Logic.{◌↔◌, ⊎_elim}
use mathlib.Core.Bool.{Bool, true, false}
use mathlib.Core.List.{List, [], ◌∷◌}
use lib.ListN.{length, take, replicate, length-append, length-replicate}
use lib.Seq.{take-append_seam}
use Rattle.refusal.specs.declared.Refusal.{Refusal}
use Rattle.refusal.specs.declared.Refusal.TheVariants.{Input}
use Rattle.refusal.specs.declared.InputCause.TheVariants.{IdleCycle}
use Rattle.table_format.specs.Table.{Table}
use Rattle.refusal.specs.Refusal.{number_of}
use Rattle.table_format.specs.Loaded.{loaded}
use Rattle.table_format.proofs.Ruled.{Ruled, ruled}
use Rattle.graph.proofs.Walk.{cycle-short}
use Rattle.machine.specs.declared.Run.{Run}
use Rattle.machine.specs.declared.StartAnswer.TheVariants.{Ready, Refused}
use Rattle.machine.specs.declared.Started.{Started}
use Rattle.machine.specs.Query.{Task, Query}
use Rattle.machine.specs.Idle.{idle, StateReached, IdleArc, IdleWalk, CycleStates, has_idle_cycle, ShownIdle, shown_idle}
use Rattle.machine.specs.Asked.{Asked, turned, runs, asked}
use Rattle.machine.specs.Start.{first_run, no_run, started_with, by_test, started_as, started, start_told_by, StartedIs}
use Rattle.machine.proofs.Told.{start_told-one}
use Rattle.machine.proofs.Idle.{among, shown-states, shown-walk, shown-there, none_found}
use Rattle.machine.proofs.Asked.{asked-facts, TurnedBy, turned_by, same_asked}

-- a result that tells what another tells is the same
pub start_is : {x s : Started} → StartedIs x s → s ≡ x
start_is {x} {s} E =
    λ i. record { answer = start_told-one s.answer x.answer s.length x.length E.0 i; run = E.1 i; cycle = E.2 i; length = E.3 i }

-- and the other way
pub is-started : {x s : Started} → s ≡ x → StartedIs x s
is-started e = (ap start_told_by e, ap (λ (s : Started). s.run) e, ap (λ (s : Started). s.cycle) e, ap (λ (s : Started). s.length) e)

ready_refused : (r : _) → Refused r ≡ Ready → ⊥
ready_refused r e = let z : ◌≡◌ {A = ℕ} 0 1 = cc in omega arith

-- a start that is ready
pub record ReadyFacts (w : Asked) (run : Run) (s : Started) : Type 0 where
  pub table : Table
  pub query : Query
  pub is : w ≡ runs table query
  pub no_cycle : has_idle_cycle table query.task ≡ false
  pub run_is : s.run ≡ run

ready_as : (w : Asked) (run : Run) → (started_as w run).answer ≡ Ready → ReadyFacts w run (started_as w run)
ready_as (turned r) run e = absurd (ready_refused r e)
ready_as (runs t q) run e = go (has_idle_cycle t q.task) refl e
  where
    go : (b : Bool) → has_idle_cycle t q.task ≡ b → (by_test t q run b).answer ≡ Ready → ReadyFacts (runs t q) run (by_test t q run b)
    go true h x = absurd (ready_refused (Input IdleCycle) x)
    go false h x = record { table = t; query = q; is = refl; no_cycle = h; run_is = refl }

module _ (cells : List ℕ) (task : ℕ) (upper lower : List ℕ) (ceiling : ℕ) where
  pub ready-facts : (s : Started) → StartedIs (started cells task upper lower ceiling) s → s.answer ≡ Ready → ReadyFacts (asked cells task upper lower ceiling) (first_run task ceiling) s
  unfolding started
  ready-facts s S e =
      subst (λ (z : Started). ReadyFacts (asked cells task upper lower ceiling) (first_run task ceiling) z) (sym (start_is S)) (ready_as (asked cells task upper lower ceiling) (first_run task ceiling) (ap (λ (z : Started). z.answer) (sym (start_is S)) ∙ e))

  -- asked for a table and a query
  pub started_by_lem : (t : Table) (q : Query) → asked cells task upper lower ceiling ≡ runs t q → (b : Bool) → has_idle_cycle t q.task ≡ b → started cells task upper lower ceiling ≡ by_test t q (first_run task ceiling) b
  unfolding started
  started_by_lem t q a b h = ap (λ (w : Asked). started_as w (first_run task ceiling)) a ∙ ap (by_test t q (first_run task ceiling)) h

  -- a start is ready where nothing is refused and no idle cycle is reached
  pub ready_where : (s : Started) → StartedIs (started cells task upper lower ceiling) s → (t : Table) (q : Query) → asked cells task upper lower ceiling ≡ runs t q → has_idle_cycle t q.task ≡ false
      → s.answer ≡ Ready
  ready_where s S t q a h = ap (λ (z : Started). z.answer) (start_is S ∙ started_by_lem t q a false h)

-- a cycle's states are states, at most as many as there are
module _ (t : Table) (k : Task) (U : Ruled t) where
  pub cycle-length : (c : List ℕ) → CycleStates t k c → length c ≤ t.states
  cycle-length [] C = absurd C
  cycle-length (s ∷ l) C = cycle-short (IdleArc t k) t.states (among t U (idle k)) (s ∷ l) C.1

-- a start that is asked for a table and a query
module _ (cells : List ℕ) (task : ℕ) (upper lower : List ℕ) (ceiling : ℕ) (t : Table) (q : Query) (U : Ruled t) (a : asked cells task upper lower ceiling ≡ runs t q) (s : Started)
    (S : StartedIs (started cells task upper lower ceiling) s) where
  abbrev shown : List ℕ
  shown = shown_idle t q.task

  by_test_lem : (P : Started → Type 0) → (ShownIdle t q.task shown → P (by_test t q (first_run task ceiling) true)) → (has_idle_cycle t q.task ≡ false → P (by_test t q (first_run task ceiling) false)) → P s
  by_test_lem P y n = go (has_idle_cycle t q.task) refl
    where
      with-test : (b : Bool) → has_idle_cycle t q.task ≡ b → P (by_test t q (first_run task ceiling) b) → P s
      with-test b h p = subst P (sym (start_is S ∙ started_by_lem cells task upper lower ceiling t q a b h)) p

      go : (b : Bool) → has_idle_cycle t q.task ≡ b → P s
      go true h = with-test true h (y (shown-there t q.task U h))
      go false h = with-test false h (n h)

  -- 12 exactly where an idle cycle is reached
  pub twelve_where : ((start_told_by s).number ≡ 12) ↔ ((x : ℕ) × StateReached t x × IdleWalk t q.task x x)
  twelve_where =
      by_test_lem (λ z. ((start_told_by z).number ≡ 12) ↔ ((x : ℕ) × StateReached t x × IdleWalk t q.task x x)) (λ C. (λ e. shown-walk t q.task shown C, λ w. refl))
      (λ h. (λ e. absurd (omega arith), λ w. absurd (none_found t q.task U h w.0 w.1 w.2)))

  -- the cycle told with it
  pub twelve-tells : (start_told_by s).number ≡ 12 → (take (start_told_by s).length s.cycle ≡ shown) × ShownIdle t q.task shown
  twelve-tells =
      by_test_lem (λ z. (start_told_by z).number ≡ 12 → (take (start_told_by z).length z.cycle ≡ shown) × ShownIdle t q.task shown)
      (λ C e. (take-append_seam shown (replicate (256 - length shown) 0), C))
      (λ h e. absurd (omega arith))

  -- the array has 256 cells
  pub cells_where : length s.cycle ≡ 256
  cells_where =
      by_test_lem (λ z. length z.cycle ≡ 256)
      (λ C. length-append shown (replicate (256 - length shown) 0) ∙ omega (arith, length-replicate {A = ℕ} (256 - length shown) 0, cycle-length t q.task U shown (shown-states t q.task shown C), U.few-states))
      (λ h. length-replicate {A = ℕ} 256 0)

-- any start
module _ (cells : List ℕ) (task : ℕ) (upper lower : List ℕ) (ceiling : ℕ) (s : Started) (S : StartedIs (started cells task upper lower ceiling) s) where
  pub turned_as : (r : Refusal) → asked cells task upper lower ceiling ≡ turned r → s ≡ started_with (Refused r) no_run []
  unfolding started
  turned_as r a = start_is S ∙ ap (λ (w : Asked). started_as w (first_run task ceiling)) a

  table-ruled : (t : Table) (q : Query) → asked cells task upper lower ceiling ≡ runs t q → Ruled t
  table-ruled t q a = ruled t (asked-facts cells task upper lower ceiling t q a).keeps_rules_lem

  pub twelve : ((start_told_by s).number ≡ 12) ↔ ((t : Table) × (q : Query) × (asked cells task upper lower ceiling ≡ runs t q) × ((x : ℕ) × StateReached t x × IdleWalk t q.task x x))
  twelve = (
    to (asked cells task upper lower ceiling) refl (turned_by cells task upper lower ceiling),
    λ w. (twelve_where cells task upper lower ceiling w.0 w.1 (table-ruled w.0 w.1 w.2) w.2 s S).1 w.3,
  )
    where
      to : (z : Asked) → asked cells task upper lower ceiling ≡ z → TurnedBy z → (start_told_by s).number ≡ 12
          → (t : Table) × (q : Query) × (asked cells task upper lower ceiling ≡ runs t q) × ((x : ℕ) × StateReached t x × IdleWalk t q.task x x)
      to (turned r) a N e =
          let z : number_of r ≡ 12 = ap (λ (z : Started). (start_told_by z).number) (sym (turned_as r a)) ∙ e in
          absurd (⊎_elim (λ x. omega arith) (⊎_elim (λ x. omega arith) (⊎_elim (λ x. omega arith) (λ x. omega arith))) N)
      to (runs t q) a N e = (t, q, a, (twelve_where cells task upper lower ceiling t q (table-ruled t q a) a s S).0 e)

  pub cycle_cells_lem : length s.cycle ≡ 256
  cycle_cells_lem = go (asked cells task upper lower ceiling) refl
    where
      go : (z : Asked) → asked cells task upper lower ceiling ≡ z → length s.cycle ≡ 256
      go (turned r) a = ap (λ (z : Started). length z.cycle) (turned_as r a) ∙ length-replicate {A = ℕ} 256 0
      go (runs t q) a = cells_where cells task upper lower ceiling t q (table-ruled t q a) a s S

-- of the cells, the loaded table alone counts
pub same-started : (c d : List ℕ) → loaded c ≡ loaded d → (task : ℕ) (upper lower : List ℕ) (ceiling : ℕ) → started c task upper lower ceiling ≡ started d task upper lower ceiling
unfolding started
same-started c d e task upper lower ceiling = ap (λ (w : Asked). started_as w (first_run task ceiling)) (same_asked c d e task upper lower ceiling)
