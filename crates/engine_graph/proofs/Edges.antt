-- A table's arcs as edges: each has its number, they lead among the states, and the index finds those of a state.
use Prim.Native.Nat.{ℕ, ◌+◌, ◌<◌, ◌≤◌}
use native.Mathlib.Omega.{arith}
use mathlib.Core.Path.{◌≡◌, refl, sym, ap, subst, ◌∙◌}
use mathlib.Core.Bool.{Bool, true}
use mathlib.Core.List.{List, Memᴰ}
use lib.ListN.{get_or}
use Rattle.table_format.specs.Table.{Arc, no_arc}
use Rattle.table_format.specs.Cells.{arc_count, arc_of, arcs_as}
use Rattle.table_format.proofs.Arcs.{length-arcs, get_d_arcs}
use Rattle.graph.specs.Walk.{Among}
use Rattle.machine.specs.Idle.{Leads}
use Rattle.machine.proofs.Transducer.{at_mem, mem-at}
use Rattle.engine_graph.specs.Graph.{Graph}

module _ (arcs : List ℕ) (test : Arc → Bool) where
  edge_at : (n : ℕ) → n < arc_count arcs → test (arc_of arcs n) ≡ true → Leads (arcs_as arcs) test (arc_of arcs n).source (arc_of arcs n).target
  edge_at n h i =
      record {
        arc = arc_of arcs n;
        listed = subst (λ (a : Arc). Memᴰ a (arcs_as arcs)) (get_d_arcs (arc_count arcs) arcs n no_arc h) (at_mem (arcs_as arcs) n no_arc (omega (arith, length-arcs (arc_count arcs) arcs)));
        from = refl;
        to = refl;
        passes = i;
      }

  edge-number : {s r : ℕ} (E : Leads (arcs_as arcs) test s r) → (n : ℕ) × (n < arc_count arcs) × (arc_of arcs n ≡ E.arc)
  edge-number E =
      let P = mem-at (arcs_as arcs) E.arc no_arc E.listed in
      let h : P.0 < arc_count arcs = omega (arith, P.1, length-arcs (arc_count arcs) arcs) in
      (P.0, h, sym (get_d_arcs (arc_count arcs) arcs P.0 no_arc h) ∙ P.2)

  module _ (first : List ℕ) (states : ℕ) (G : Graph arcs first states) where
    -- they lead among the states
    pub among : Among (Leads (arcs_as arcs) test) states
    among s r E =
        let N = edge-number E in (
          subst (λ (x : ℕ). x < states) (ap (λ (a : Arc). a.source) N.2 ∙ E.from) (G.source_in N.0 N.1),
          subst (λ (x : ℕ). x < states) (ap (λ (a : Arc). a.target) N.2 ∙ E.to) (G.target_in N.0 N.1),
        )

    -- an edge by its number, among those of its source
    pub record NumberOf (q x : ℕ) : Type 0 where
      pub number : ℕ
      pub from : get_or first q 0 ≤ number
      pub until : number < get_or first (q + 1) 0
      pub target_is : (arc_of arcs number).target ≡ x
      pub passes : test (arc_of arcs number) ≡ true

    pub number_of : (q x : ℕ) → Leads (arcs_as arcs) test q x → NumberOf q x
    number_of q x E =
        let N = edge-number E in
        let at : (arc_of arcs N.0).source ≡ q = ap (λ (a : Arc). a.source) N.2 ∙ E.from in
        let i = G.indexed N.0 N.1 in
        record {
          number = N.0;
          from = subst (λ (s : ℕ). get_or first s 0 ≤ N.0) at i.0;
          until = subst (λ (s : ℕ). N.0 < get_or first (s + 1) 0) at i.1;
          target_is = ap (λ (a : Arc). a.target) N.2 ∙ E.to;
          passes = ap test N.2 ∙ E.passes;
        }

    -- and the other way
    pub edge_of : (q n : ℕ) → q < states → get_or first q 0 ≤ n → n < get_or first (q + 1) 0 → test (arc_of arcs n) ≡ true → Leads (arcs_as arcs) test q (arc_of arcs n).target
    edge_of q n h a b e = let i = G.numbered q n h a b in subst (λ (s : ℕ). Leads (arcs_as arcs) test s (arc_of arcs n).target) i.1 (edge_at n i.0 e)
