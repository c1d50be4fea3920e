-- The edges of a graph by the numbers of arcs: those of a state are within the cells, and where one is idle it leads among the states.
use Prim.Native.Nat.{ℕ, ◌+◌, ◌<◌, ◌≤◌}
use mathlib.Core.Path.{◌≡◌, refl, subst}
use mathlib.Core.Bool.{Bool, true, false, cond}
use lib.ListN.{get_or}
use Rattle.std.specs.Prelude.{Option, Some, None}
use Rattle.table_format.specs.Cells.{arc_count, arc_of}
use Rattle.graph.specs.Walk.{Among}
use Rattle.engine_graph.specs.declared.IdleGraph.{IdleGraph}
use Rattle.engine_graph.specs.Graph.{idle_by, idle_target}
use Rattle.engine_graph.specs.Edge.{EdgeIn}
use Rattle.engine_graph.proofs.Edges.{among, number_of, edge_of}

pub some-same : {x y : ℕ} → ◌≡◌ {A = Option ℕ} (Some x) (Some y) → x ≡ y
some-same e = cc

pub none-some : {x : ℕ} → ◌≡◌ {A = Option ℕ} None (Some x) → ⊥
none-some e = cc

cond-some : (b : Bool) {t s : ℕ} → ◌≡◌ {A = Option ℕ} (cond b (Some t) None) (Some s) → (b ≡ true) × (t ≡ s)
cond-some true e = (refl, some-same e)
cond-some false e = absurd (none-some e)

module _ (g : IdleGraph) where
  -- where arc n leads, if it is idle
  abbrev pub target_at : ℕ → Option ℕ
  target_at n = idle_target g.upper g.lower (arc_of g.arcs.now n)

  -- the edges lead among the states
  pub edges_among : Among (EdgeIn g) g.states
  edges_among = among g.arcs.now (idle_by g.upper g.lower) g.first.now g.states g.graph

  pub arc_in : (q n : ℕ) → q < g.states → get_or g.first.now q 0 ≤ n → n < get_or g.first.now (q + 1) 0 → n < arc_count g.arcs.now
  arc_in q n h a b = (g.graph.numbered q n h a b).0

  -- an arc of a state that is idle is an edge
  pub edge_at : (q n x : ℕ) → q < g.states → get_or g.first.now q 0 ≤ n → n < get_or g.first.now (q + 1) 0 → target_at n ≡ Some x → EdgeIn g q x
  edge_at q n x h a b e = let T = cond-some (idle_by g.upper g.lower (arc_of g.arcs.now n)) e in subst (EdgeIn g q) T.1 (edge_of g.arcs.now (idle_by g.upper g.lower) g.first.now g.states g.graph q n h a b T.0)

  -- and the other way
  pub edge-number : (q x : ℕ) → EdgeIn g q x → (n : ℕ) × (get_or g.first.now q 0 ≤ n) × (n < get_or g.first.now (q + 1) 0) × (target_at n ≡ Some x)
  edge-number q x E =
      let N = number_of g.arcs.now (idle_by g.upper g.lower) g.first.now g.states g.graph q x E in
      (N.number, N.from, N.until, (λ i. cond (N.passes i) (Some (N.target_is i)) None))
