-- The arcs of a table that keeps the rules, with the index of each state's first arc, are a `Graph` on its states.
use Prim.Native.Nat.{ℕ, suc, ◌+◌, ◌-◌, ◌<◌, ◌≤◌}
use native.Mathlib.Omega.{arith}
use native.Mathlib.Numerals.{add-one}
use mathlib.Core.Path.{◌≡◌, sym, ap, subst, ◌∙◌}
use mathlib.Core.List.{List, [], Memᴰ}
use lib.ListN.{length, get_or}
use Rattle.table_format.specs.Table.{Arc, Table, no_arc}
use Rattle.table_format.specs.Index.{below, first_index}
use Rattle.table_format.specs.Cells.{arc_count, arc_of, arcs_as}
use Rattle.table_format.proofs.Arcs.{length-arcs, get_d_arcs}
use Rattle.table_format.proofs.Index.{length-index, index_at}
use Rattle.table_format.proofs.Ruled.{Ruled}
use Rattle.machine.specs.Query.{recognition, Query}
use Rattle.machine.specs.Machine.{ArcOf}
use Rattle.machine.specs.Transducer.{machine}
use Rattle.machine.proofs.Transducer.{arc_of_lem, at_mem}
use Rattle.engine_graph.specs.Graph.{Graph}

module _ (t : Table) (U : Ruled t) (cells : List ℕ) (e : arcs_as cells ≡ t.arcs) where
  size : arc_count cells ≡ length t.arcs
  size = sym (length-arcs (arc_count cells) cells) ∙ ap length e

  arc-is : (n : ℕ) → n < arc_count cells → get_or t.arcs n no_arc ≡ arc_of cells n
  arc-is n h = ap (λ (l : List Arc). get_or l n no_arc) (sym e) ∙ get_d_arcs (arc_count cells) cells n no_arc h

  listed : (n : ℕ) → n < arc_count cells → Memᴰ (get_or t.arcs n no_arc) t.arcs
  listed n h = at_mem t.arcs n no_arc (omega (arith, size))

  -- any query: the numbers of arcs are the table's
  abbrev any_query : Query
  any_query = record { task = recognition; upper_word = []; lower_word = []; ceiling = 0 }

  pub graph_of : (first : List ℕ) → first ≡ first_index t.states t.arcs → Graph cells first t.states
  graph_of first f =
      record {
        few = U.few-states;
        index = ap length f ∙ length-index t.states t.arcs U.few-states;
        source_in = source;
        target_in = λ n h. subst (λ (a : Arc). a.target < t.states) (arc-is n h) (U.target_in _ (listed n h));
        indexed = indexed';
        numbered = numbered';
      }
    where
      source : (n : ℕ) → n < arc_count cells → (arc_of cells n).source < t.states
      source n h = subst (λ (a : Arc). a.source < t.states) (arc-is n h) (U.source_in _ (listed n h))

      at : (q : ℕ) → q ≤ t.states → get_or first q 0 ≡ below q t.arcs
      at q h = ap (λ (l : List ℕ). get_or l q 0) f ∙ index_at t.states t.arcs q h

      after : (q : ℕ) → q < t.states → get_or first (q + 1) 0 ≡ below (suc q) t.arcs
      after q h = at (q + 1) (omega arith) ∙ ap (λ (m : ℕ). below m t.arcs) (add-one q)

      indexed' : (n : ℕ) → n < arc_count cells → (get_or first (arc_of cells n).source 0 ≤ n) × (n < get_or first ((arc_of cells n).source + 1) 0)
      indexed' n h =
          let q : ℕ = (arc_of cells n).source in
          let A : ArcOf (machine t any_query) q n = (arc_of_lem t any_query U.rising q n).1 (omega (arith, size), ap (λ (a : Arc). a.source) (arc-is n h)) in
          let lo : below q t.arcs ≤ n = A.0 in
          let hi : n < below q t.arcs + (below (suc q) t.arcs - below q t.arcs) = A.1 in
          let f₁ = at q (let s = source n h in omega arith) in
          let f₂ = after q (source n h) in
          (omega arith, omega arith)

      numbered' : (q n : ℕ) → q < t.states → get_or first q 0 ≤ n → n < get_or first (q + 1) 0 → (n < arc_count cells) × ((arc_of cells n).source ≡ q)
      numbered' q n h a b =
          let f₁ = at q (omega arith) in
          let f₂ = after q h in
          let R = (arc_of_lem t any_query U.rising q n).0 (omega arith, omega arith) in
          let inside : n < arc_count cells = omega (arith, size, R.0) in
          (inside, sym (ap (λ (x : Arc). x.source) (arc-is n inside)) ∙ R.1)
