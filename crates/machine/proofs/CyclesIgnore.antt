-- "the refusal for loops ignores penalties": tables that are the same without their penalties have the same idle cycles, and their starts tell the same.
use Prim.Native.Nat.{ℕ}
use mathlib.Core.Path.{◌≡◌, refl, sym, ap, ◌∙◌}
use mathlib.Core.Bool.{Bool, true, false}
use mathlib.Core.Option.{some}
use mathlib.Core.List.{List}
use Rattle.refusal.specs.declared.Refusal.TheVariants.{Input}
use Rattle.refusal.specs.declared.InputCause.TheVariants.{IdleCycle}
use Rattle.table_format.specs.Table.{Table, without_penalty, without_penalties}
use Rattle.machine.specs.Query.{Task, Query}
use Rattle.machine.specs.Idle.{has_idle_cycle, shown_idle}
use Rattle.machine.specs.Asked.{runs, asked}
use Rattle.machine.specs.declared.StartAnswer.TheVariants.{Refused}
use Rattle.machine.specs.declared.Started.{Started}
use Rattle.machine.specs.Start.{first_run, no_run, started_with, by_test, started, start_told_by}
use Rattle.machine.proofs.Idle.{cycle-made, shown-made}
use Rattle.machine.proofs.Asked.{asked-facts}
use Rattle.machine.proofs.Start.{started_by_lem}

module _ (t : Table) (k : Task) where
  cycle-without : has_idle_cycle (without_penalties t) k ≡ has_idle_cycle t k
  cycle-without = cycle-made t without_penalty k k (λ a. refl) (λ a. refl) (λ a. refl)

  shown-without : shown_idle (without_penalties t) k ≡ shown_idle t k
  shown-without = shown-made t without_penalty k k (λ a. refl) (λ a. refl) (λ a. refl)

module _ (t u : Table) (same : without_penalties t ≡ without_penalties u) where
  pub same-cycle : (k : Task) → has_idle_cycle t k ≡ has_idle_cycle u k
  same-cycle k = sym (cycle-without t k) ∙ ap (λ (z : Table). has_idle_cycle z k) same ∙ cycle-without u k

  pub same-shown : (k : Task) → shown_idle t k ≡ shown_idle u k
  same-shown k = sym (shown-without t k) ∙ ap (λ (z : Table). shown_idle z k) same ∙ shown-without u k

  -- starts of one task, with any words and under any ceilings
  module _ (c d : List ℕ) (task : ℕ) (v w x y : List ℕ) (m n : ℕ) (q r : Query) (a : asked c task v w m ≡ runs t q) (b : asked d task x y n ≡ runs u r) where
    same-task : q.task ≡ r.task
    same-task = let e : some q.task ≡ some r.task = sym (asked-facts c task v w m t q a).task-is ∙ (asked-facts d task x y n u r b).task-is in cc

    pub same-told : (start_told_by (started c task v w m) ≡ start_told_by (started d task x y n)) × ((started c task v w m).cycle ≡ (started d task x y n).cycle)
    same-told = go (has_idle_cycle u r.task) refl
      where
        test : has_idle_cycle t q.task ≡ has_idle_cycle u r.task
        test = ap (has_idle_cycle t) same-task ∙ same-cycle r.task

        shown : shown_idle t q.task ≡ shown_idle u r.task
        shown = ap (shown_idle t) same-task ∙ same-shown r.task

        go : (z : Bool) → has_idle_cycle u r.task ≡ z → (start_told_by (started c task v w m) ≡ start_told_by (started d task x y n)) × ((started c task v w m).cycle ≡ (started d task x y n).cycle)
        go z h = (ap start_told_by first ∙ told z ∙ sym (ap start_told_by second), ap (λ (s : Started). s.cycle) first ∙ cells z ∙ sym (ap (λ (s : Started). s.cycle) second))
          where
            first : started c task v w m ≡ by_test t q (first_run task m) z
            first = started_by_lem c task v w m t q a z (test ∙ h)

            second : started d task x y n ≡ by_test u r (first_run task n) z
            second = started_by_lem d task x y n u r b z h

            told : (e : Bool) → start_told_by (by_test t q (first_run task m) e) ≡ start_told_by (by_test u r (first_run task n) e)
            told true = ap (λ (l : List ℕ). start_told_by (started_with (Refused (Input IdleCycle)) no_run l)) shown
            told false = refl

            cells : (e : Bool) → (by_test t q (first_run task m) e).cycle ≡ (by_test u r (first_run task n) e).cycle
            cells true = ap (λ (l : List ℕ). (started_with (Refused (Input IdleCycle)) no_run l).cycle) shown
            cells false = refl
