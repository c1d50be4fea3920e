-- What the start tells in each of its cases.
use Prim.Native.Nat.{ℕ}
use mathlib.Core.Path.{◌≡◌, refl, sym, ap, ap₂, subst, ◌∙◌}
use mathlib.Core.Bool.{Bool, true, false}
use mathlib.Core.List.{List, [], ◌∷◌}
use lib.ListN.{length}
use mathlib.Core.Option.{some}
use Rattle.std.specs.Prelude.{Some, None, Ok}
use Rattle.refusal.specs.declared.Refusal.{Refusal}
use Rattle.refusal.specs.declared.Refusal.TheVariants.{Input}
use Rattle.refusal.specs.declared.InputCause.TheVariants.{IdleCycle}
use Rattle.table_check.specs.declared.Checked.{Checked}
use Rattle.table_format.specs.Loaded.{table_in, loaded}
use Rattle.table_format.specs.Cells.{arcs_as}
use Rattle.table_check.specs.Check.{LaidOut, checked}
use Rattle.table_check.proofs.Passing.{laid, indexed, passed}
use Rattle.graph.specs.Lists.{AllBelow}
use Rattle.graph.specs.Shown.{shown_cycle}
use Rattle.table_format.proofs.Ruled.{Ruled, ruled}
use Rattle.machine.specs.declared.Run.{Run}
use Rattle.machine.specs.declared.Started.{Started}
use Rattle.machine.specs.declared.StartAnswer.TheVariants.{Ready, Refused}
use Rattle.machine.specs.Query.{upper_side, lower_side, Query}
use Rattle.machine.specs.Idle.{leads_by, always, has_idle_cycle, shown_idle}
use Rattle.machine.specs.Asked.{Asked, turned, asked}
use Rattle.machine.specs.Start.{first_run, no_run, started_with, by_test, started_as, started, StartedIs}
use Rattle.machine.proofs.Asked.{loaded-rules}
use Rattle.machine.proofs.Idle.{shown-some, shown-there, shown-none}
use Rattle.machine.proofs.Start.{is-started, started_by_lem}
use Rattle.engine_cycle.specs.declared.Cycle.{Cycle}
use Rattle.engine_graph.specs.Graph.{Graph, idle_by}
use Rattle.engine_cycle.specs.Numbers.{cycle_cells}
use Rattle.engine_idle.specs.Found.{cycle_of}
use Rattle.engine_admission.specs.Admission.{reads_at, admission_of}
use Rattle.engine_admission.proofs.Words.{Asks, asking_passes, reads_of}
use Rattle.engine_graph.proofs.OfTable.{graph_of}
use Rattle.engine_start.proofs.Loads.{loaded-laid}

-- by the cycle that is found
none_cycle : (l : List ℕ) → None ≡ cycle_of l → l ≡ []
none_cycle [] e = refl
none_cycle (s ∷ l) e = cc

some_cycle : (l : List ℕ) (c : Cycle) → Some c ≡ cycle_of l → c ≡ cycle_cells l
some_cycle [] c e = cc
some_cycle (s ∷ l) c e = cc

no_cycle : (c : Cycle) → Some c ≡ cycle_of [] → ⊥
no_cycle c e = cc

module _ (cells : List ℕ) (task : ℕ) (upper lower : List ℕ) (ceiling : ℕ) where
  -- 20, 11, 10 and 39
  pub start-turned : (r : Refusal) → asked cells task upper lower ceiling ≡ turned r → (s : Started) → s ≡ started_with (Refused r) no_run [] → StartedIs (started cells task upper lower ceiling) s
  unfolding started
  start-turned r a s e = is-started (e ∙ ap (λ (w : Asked). started_as w (first_run task ceiling)) (sym a))

  -- a search that may run, by what the table check tells and what the admission answers
  module _ (r : Checked) (is : Ok r ≡ checked cells) (f : (table : List ℕ) → loaded table ≡ some (table_in table) → Ok tt ≡ admission_of (asked table task upper lower ceiling)) where
    A : Asks cells task upper lower ceiling
    A = asking_passes task upper lower ceiling cells (passed cells r is) (f cells (passed cells r is))

    rules : Ruled (table_in cells)
    rules = ruled (table_in cells) (loaded-rules cells (table_in cells) A.loads)

    abbrev query : Query
    query = record { task = A.asks; upper_word = upper; lower_word = lower; ceiling = ceiling }

    pub start-laid : LaidOut cells r.layout
    start-laid = loaded-laid cells (table_in cells) r.layout A.loads (laid cells r is)

    states-are : (table_in cells).states ≡ r.layout.states
    unfolding table_in
    states-are = sym start-laid.states-is

    pub start_graph : (arcs : List ℕ) (states : ℕ) → arcs_as arcs ≡ (table_in cells).arcs → states ≡ r.layout.states → Graph arcs r.first states
    start_graph arcs states e n = subst (λ (m : ℕ). Graph arcs r.first m) (states-are ∙ sym n) (graph_of (table_in cells) rules arcs e r.first (indexed cells r is))

    pub start-initials : (initials : List ℕ) (states : ℕ) → initials ≡ (table_in cells).initials → states ≡ r.layout.states → AllBelow states initials
    start-initials initials states e n = subst (λ (m : ℕ). AllBelow m initials) (states-are ∙ sym n) (subst (λ (x : List ℕ). AllBelow (table_in cells).states x) (sym e) rules.initial_in)

    -- what is to be shown in a graph of the table's arcs, by the sides that the task reads
    module _ (arcs : List ℕ) (states : ℕ) (u w : Bool) (initials : List ℕ) (E : arcs_as arcs ≡ (table_in cells).arcs) (I : initials ≡ (table_in cells).initials) (N : states ≡ r.layout.states) (U : u ≡ reads_at task upper_side) (W : w ≡ reads_at task lower_side) where
      abbrev shown_here : List ℕ
      shown_here = shown_cycle (leads_by (arcs_as arcs) always) (leads_by (arcs_as arcs) (idle_by u w)) states initials

      abbrev shown : List ℕ
      shown = shown_idle (table_in cells) A.asks

      shown-is : shown_here ≡ shown
      shown-is =
          let upper-read = U ∙ reads_of task A.asks A.task-is upper_side in
          let lower-read = W ∙ reads_of task A.asks A.task-is lower_side in
          let count = N ∙ sym states-are in
          (λ i. shown_cycle (leads_by (E i) always) (leads_by (E i) (idle_by (upper-read i) (lower-read i))) (count i) (I i))

      -- a start, by the test
      start-by : (b : Bool) → has_idle_cycle (table_in cells) A.asks ≡ b → (s : Started) → s ≡ by_test (table_in cells) query (first_run task ceiling) b → StartedIs (started cells task upper lower ceiling) s
      start-by b h s e = is-started (e ∙ sym (started_by_lem cells task upper lower ceiling (table_in cells) query A.runs-is b h))

      pub start-ready : None ≡ cycle_of shown_here → (s : Started) → s ≡ started_with Ready (first_run task ceiling) [] → StartedIs (started cells task upper lower ceiling) s
      start-ready n s e = go (has_idle_cycle (table_in cells) A.asks) refl
        where
          go : (b : Bool) → has_idle_cycle (table_in cells) A.asks ≡ b → StartedIs (started cells task upper lower ceiling) s
          go true h = absurd (shown-some (table_in cells) A.asks shown (shown-there (table_in cells) A.asks rules h) (ap length (none_cycle shown (n ∙ ap cycle_of shown-is))))
          go false h = start-by false h s e

      -- the answer with the cells of a cycle
      abbrev told : Run → Cycle → Started
      told run x = record { answer = Refused (Input IdleCycle); run = run; cycle = x.states; length = x.length }

      pub start-cycle : (c : Cycle) → Some c ≡ cycle_of shown_here → (run : Run) → run ≡ no_run → StartedIs (started cells task upper lower ceiling) (told run c)
      start-cycle c n run z = go (has_idle_cycle (table_in cells) A.asks) refl
        where
          go : (b : Bool) → has_idle_cycle (table_in cells) A.asks ≡ b → StartedIs (started cells task upper lower ceiling) (told run c)
          go true h = start-by true h (told run c) (ap₂ told z (some_cycle shown c (n ∙ ap cycle_of shown-is)))
          go false h = absurd (no_cycle c (n ∙ ap cycle_of (shown-is ∙ shown-none (table_in cells) A.asks rules h)))
