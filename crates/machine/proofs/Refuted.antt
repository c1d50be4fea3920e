-- Two outcomes that the claims on a call do not take: one that refuses everything, and one that clears the run's task.
use Prim.Native.Nat.{ℕ}
use native.Mathlib.Omega.{arith}
use mathlib.Core.Path.{◌≡◌, refl, sym, ap, ◌∙◌}
use mathlib.Core.List.{List, [], ◌∷◌}
use Rattle.table_format.specs.Table.{Table}
use Rattle.table_format.specs.Loaded.{cells_of}
use Rattle.refusal.specs.declared.Refusal.TheVariants.{State}
use Rattle.refusal.specs.declared.StateCause.TheVariants.{OutputFull}
use Rattle.machine.specs.declared.Run.{Run}
use Rattle.machine.specs.declared.Answer.TheVariants.{Refused}
use Rattle.machine.specs.Query.{Query, most_ceiling, synthesis_of}
use Rattle.machine.specs.Frames.{place_holds}
use Rattle.machine.specs.Step.{move, step}
use Rattle.machine.specs.Call.{advance, call}
use Rattle.refusal.specs.Told.{found_kind}
use Rattle.machine.specs.Asked.{runs}
use Rattle.machine.specs.Start.{first_run}
use Rattle.machine.specs.Reading.{Outcome, told_by, outcome_of, RefusedLeaves}
use Rattle.machine.specs.Demand.{Lent, CallTells}
use Rattle.machine.specs.Cases.{table_k, big, lent_for}
use Rattle.machine.proofs.Reading.{by_call}

-- "Refused 23 after 0 steps, nothing changed", whatever is lent
abbrev pub refuses_all : Run → Lent → Outcome
refuses_all r x = record { called = record { answer = Refused 0 (State OutputFull); run = r }; stack = x.stack; output = x.buffer }

-- the first row's query and what its first call is lent
abbrev pub query_k : Query
query_k = synthesis_of (1 ∷ 2 ∷ []) most_ceiling

abbrev pub first_k : Lent
first_k = lent_for (cells_of (table_k [])) big []

first_finds : (told_by (outcome_of (runs (table_k []) query_k) (first_run 2 most_ceiling) first_k.stack first_k.allowance first_k.buffer)).kind ≡ found_kind
unfolding call place_holds advance step move
first_finds = refl

pub refuses_all_lem : (n : ℕ) → CallTells (table_k []) query_k n (first_run 2 most_ceiling) first_k (refuses_all (first_run 2 most_ceiling) first_k) → ⊥
refuses_all_lem n T =
    let z : ◌≡◌ {A = ℕ} 4 1 = ap (λ (o : Outcome). (told_by o).kind) (by_call (table_k []) query_k (first_run 2 most_ceiling) first_k.stack first_k.allowance first_k.buffer T.by-steps) ∙ first_finds in
    omega arith

-- the same outcome with the task of its run cleared
abbrev pub task_cleared : Outcome → Outcome
task_cleared o =
    record {
      called = record { answer = o.called.answer; run = record { task = 0; started = o.called.run.started; depth = o.called.run.depth; ceiling = o.called.run.ceiling } };
      stack = o.stack;
      output = o.output;
    }

pub clears_task : (t : Table) (q : Query) (run : Run) (stack buffer : List ℕ) (o : Outcome) → (run.task ≡ 0 → ⊥) → RefusedLeaves (runs t q) run stack buffer (task_cleared o) → ⊥
clears_task t q run stack buffer o some R = some (sym R.1)
