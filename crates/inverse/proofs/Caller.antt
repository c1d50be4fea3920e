-- What a caller receives, by demand 3: from searches on a table and on its inverse, and from the three tasks on one table.
use Prim.Native.Nat.{ℕ}
use native.Mathlib.Nat.{zero-add}
use mathlib.Core.Path.{◌≡◌, refl, sym, ap, subst, subst₂, ◌∙◌}
use mathlib.Core.Bool.{true}
use mathlib.Core.Option.{some, map}
use mathlib.Core.List.{List, []}
use lib.ListN.{length, take}
use Rattle.table_format.specs.Table.{Table}
use Rattle.table_format.specs.Rules.{keeps_rules}
use Rattle.table_format.specs.Loaded.{loaded}
use Rattle.machine.specs.Query.{Task, recognition, synthesis, analysis, task_of, Query, recognition_of}
use Rattle.machine.specs.Machine.{Machine}
use Rattle.machine.specs.Tour.{Entry, tour, readings}
use Rattle.machine.specs.Transducer.{machine}
use Rattle.machine.specs.Idle.{NoIdleCycle}
use Rattle.machine.specs.Asked.{runs, asked}
use Rattle.machine.specs.Demand.{Demand3, Lent, Handed}
use Rattle.machine.proofs.Asked.{AskedFacts, asked-facts}
use Rattle.machine.proofs.Order.{readings-outputs}
use Rattle.machine.proofs.Demand.{ended-steps}
use Rattle.machine.proofs.Morphism.{Morphism, tour-same, tree-same, told_same}
use Rattle.machine.proofs.Headlines as machines
use Rattle.inverse.specs.Inverse.{inverse, inverse_number, inverse_query}
use Rattle.inverse.specs.Readings.{accepting_paths, readings_of, occurrences}
use Rattle.inverse.specs.Search.{Search, received_by, steps, Ended}
use Rattle.inverse.proofs.Table.{rules-alike}
use Rattle.inverse.proofs.Machine.{inverse_morphism}
use Rattle.inverse.proofs.Starts.{inverse_asked, same_asked}
use Rattle.inverse.proofs.Counts as counts

-- A search on a table, and one on its inverse with the sides of the question exchanged.
module _ (c d : List ℕ) (inverted : loaded d ≡ map inverse (loaded c)) (task : ℕ) (u l : List ℕ) (ceiling : ℕ)
    (X : Search c task u l ceiling) (Y : Search d (inverse_number task) l u ceiling) where
  abbrev one : (t : Table) × (q : Query) × (asked c task u l ceiling ≡ runs t q) × ((zs : List Lent) → Handed u l c X.start.run [] zs → Demand3 u l t q X.start.run zs)
  one = machines.demand-three c task u l ceiling X.start X.start_is X.ready

  abbrev t : Table
  t = one.0

  abbrev q : Query
  q = one.1

  abbrev M : Machine
  M = machine t q

  abbrev N : Machine
  N = machine (inverse t) (inverse_query q)

  F : Morphism M N
  F = inverse_morphism t (rules-alike t (asked-facts c task u l ceiling t q one.2).keeps_rules_lem) q

  mine : Demand3 u l t q X.start.run X.calls
  mine = one.3 X.calls X.handed

  theirs : Demand3 l u (inverse t) (inverse_query q) Y.start.run Y.calls
  theirs =
      let E = machines.demand-three d (inverse_number task) l u ceiling Y.start Y.start_is Y.ready in
      let e : runs E.0 E.1 ≡ runs (inverse t) (inverse_query q) = sym E.2 ∙ same_asked c d inverted task u l ceiling ∙ ap inverse_asked one.2 in
      subst₂ (λ (x : Table) (y : Query). Demand3 l u x y Y.start.run Y.calls) (cc) (cc) (E.3 Y.calls Y.handed)

  -- after as many steps the same readings were received, whatever the calls
  pub same-so_far : steps X ≡ steps Y → received_by X ≡ received_by Y
  same-so_far e =
      mine.same-readings ∙ ap (λ (n : ℕ). readings M (take n (tour M))) e ∙ sym (ap (λ (es : List Entry). readings M (take (steps Y) es)) (tour-same M N F))
      ∙ sym (told_same M N F (take (steps Y) (tour N))) ∙ sym theirs.same-readings

  pub same-steps : Ended X → Ended Y → steps X ≡ steps Y
  same-steps a b =
      sym (zero-add (steps X)) ∙ ended-steps u l t q X.calls 0 X.start.run mine.tells a ∙ sym (tree-same M N F)
      ∙ sym (ended-steps l u (inverse t) (inverse_query q) Y.calls 0 Y.start.run theirs.tells b) ∙ zero-add (steps Y)

-- One search: its table, and all that it received where it came to its end.

-- what is asked, by task and words
abbrev question : Task → List ℕ → List ℕ → ℕ → Query
question k u l ceiling = record { task = k; upper_word = u; lower_word = l; ceiling = ceiling }

pub record Told {c : List ℕ} {task : ℕ} {u l : List ℕ} {ceiling : ℕ} (k : Task) (X : Search c task u l ceiling) : Type 0 where
  pub table : Table
  pub table_is : loaded c ≡ some table
  pub rules : keeps_rules table ≡ true
  pub no_cycle : NoIdleCycle table k
  pub whole : Ended X → received_by X ≡ readings_of table (question k u l ceiling)

module _ {c : List ℕ} {task : ℕ} {u l : List ℕ} {ceiling : ℕ} (k : Task) (e : task_of task ≡ some k) (X : Search c task u l ceiling) where
  told : Told k X
  told =
      let E = machines.start-to-end c task u l ceiling X.start X.start_is X.ready in
      by E.0 E.1 E.2 E.3 E.4 (λ a. E.5 X.calls X.handed a ∙ sym (readings-outputs (machine E.0 E.1) (tour (machine E.0 E.1))))
    where
      by : (t : Table) (q : Query) → asked c task u l ceiling ≡ runs t q → keeps_rules t ≡ true → NoIdleCycle t q.task → (Ended X → received_by X ≡ readings_of t q) → Told k X
      by t q a rules none whole =
          record {
            table = t;
            table_is = F.table_is;
            rules = rules;
            no_cycle = subst (λ (x : Query). NoIdleCycle t x.task) query-is none;
            whole = λ z. whole z ∙ ap (readings_of t) query-is;
          }
        where
          F : AskedFacts c t q task u l ceiling
          F = asked-facts c task u l ceiling t q a

          task-is : q.task ≡ k
          task-is = let x : some q.task ≡ some k = sym F.task-is ∙ e in cc

          query-is : q ≡ question k u l ceiling
          query-is = λ i. record { task = task-is i; upper_word = F.upper_is i; lower_word = F.lower-is i; ceiling = F.ceiling-is i }

-- The tasks on one table.
module _ (c u l : List ℕ) (ceiling : ℕ) where
  same-table : (s t : Table) → loaded c ≡ some s → loaded c ≡ some t → s ≡ t
  same-table s t a b = let x : some s ≡ some t = sym a ∙ b in cc

  -- recognition against a task whose readings are counted so
  counted : {task : ℕ} {v w : List ℕ} (k : Task) → task_of task ≡ some k → (x : List ℕ)
      → ((t : Table) → keeps_rules t ≡ true → NoIdleCycle t k → length (accepting_paths t (recognition_of u l ceiling)) ≡ occurrences x (readings_of t (question k v w ceiling)))
      → (R : Search c 1 u l ceiling) (S : Search c task v w ceiling) → Ended R → Ended S → length (received_by R) ≡ occurrences x (received_by S)
  counted k e x count R S a b =
      let A = told recognition refl R in
      let B = told k e S in
      ap length (A.whole a ∙ ap (λ (t : Table). readings_of t (recognition_of u l ceiling)) (same-table A.table B.table A.table_is B.table_is))
      ∙ counts.as_many B.table (recognition_of u l ceiling) ∙ count B.table B.rules B.no_cycle ∙ sym (ap (occurrences x) (B.whole b))

  pub synthesis_count : (R : Search c 1 u l ceiling) (S : Search c 2 u [] ceiling) → Ended R → Ended S → length (received_by R) ≡ occurrences l (received_by S)
  synthesis_count = counted synthesis refl l (λ t rules none. counts.synthesis_count t rules u l ceiling none)

  pub analysis_count : (R : Search c 1 u l ceiling) (A : Search c 3 [] l ceiling) → Ended R → Ended A → length (received_by R) ≡ occurrences u (received_by A)
  analysis_count = counted analysis refl u (λ t rules none. counts.analysis_count t rules u l ceiling none)

  pub keys_agree : (S : Search c 2 u [] ceiling) (A : Search c 3 [] l ceiling) → Ended S → Ended A → occurrences l (received_by S) ≡ occurrences u (received_by A)
  keys_agree S A a b =
      let B = told synthesis refl S in
      let C = told analysis refl A in
      ap (occurrences l) (B.whole a) ∙ sym (counts.synthesis_count B.table B.rules u l ceiling B.no_cycle)
      ∙ ap (λ (t : Table). length (accepting_paths t (recognition_of u l ceiling))) (same-table B.table C.table B.table_is C.table_is)
      ∙ counts.analysis_count C.table C.rules u l ceiling C.no_cycle ∙ sym (ap (occurrences u) (C.whole b))
