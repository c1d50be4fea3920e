-- Laws of the search: states that are left, the lowest that is looped, the cycle through it, and the states at first.
use Prim.Native.Nat.{ℕ, ◌+◌, ◌<◌, ◌≤◌}
use native.Mathlib.Omega.{arith}
use mathlib.Core.Path.{◌≡◌, refl, sym, ap, subst, ◌∙◌}
use mathlib.Core.Logic.{⊎_elim, ◌↔◌}
use mathlib.Core.Bool.{Bool, true, false, true≢false}
use mathlib.Core.List.{List}
use lib.ListN.{length, take, replicate, length-replicate, get_or-replicate}
use lib.Seq.{get_or-take, length-take-le}
use Rattle.std.specs.Prelude.{Option, Some, None}
use Rattle.table_format.specs.Cells.{arcs_as}
use Rattle.graph.specs.Lists.{AllBelow}
use Rattle.graph.specs.Walk.{Walk}
use Rattle.graph.proofs.Lists.{below_more, most?}
use Rattle.graph.proofs.Walk.{walk-below}
use Rattle.graph.proofs.Shown as shown
use Rattle.machine.specs.Idle.{leads_by, always, AnyArc}
use Rattle.machine.proofs.Idle.{tells}
use Rattle.engine_graph.specs.declared.IdleGraph.{IdleGraph}
use Rattle.engine_graph.specs.Graph.{idle_by}
use Rattle.engine_graph.specs.Edge.{EdgeIn}
use Rattle.engine_graph.proofs.Edges.{among}
use Rattle.engine_graph.proofs.Targets.{some-same, none-some, edges_among}
use Rattle.engine_reach.specs.Reach.{ReachedBy, ReachedCells}
use Rattle.engine_peel.specs.Peel.{Cyclic, Settled}
use Rattle.engine_cycle.specs.Numbers.{cycle_cells, cycle_through}
use Rattle.engine_idle.specs.Found.{NoneLeft, LoopedAt, LowestLooped, cycle_of, shown_in}

-- THE LOWEST THAT IS LOOPED.

module _ (g : IdleGraph) (reached : List Bool) where
  pub looped-more : (s : ℕ) (b : Bool) → (b ≡ true) ↔ LoopedAt g reached s → b ≡ false → ((i : ℕ) → i < s → LoopedAt g reached i → ⊥) → (i : ℕ) → i < s + 1 → LoopedAt g reached i → ⊥
  looped-more s b B e f = below_more (λ (i : ℕ). LoopedAt g reached i → ⊥) s f (λ L. true≢false (sym (B.1 L) ∙ e))

  pub lowest-found : (s : ℕ) → s < g.states → LoopedAt g reached s → ((i : ℕ) → i < s → LoopedAt g reached i → ⊥) → LowestLooped g reached (Some s)
  lowest-found s h L f =
      record {
        looped = λ r e. subst (λ (x : ℕ). (x < g.states) × LoopedAt g reached x × ((i : ℕ) → i < x → LoopedAt g reached i → ⊥)) (some-same e) (h, L, f);
        none_looped = λ e. absurd (none-some (sym e));
      }

  pub lowest-none : (s : ℕ) → g.states ≤ s → ((i : ℕ) → i < s → LoopedAt g reached i → ⊥) → LowestLooped g reached None
  lowest-none s h f = record { looped = λ r e. absurd (none-some e); none_looped = λ e i k. f i (omega arith) }

-- WHAT IS SHOWN, where all states live at first and the rounds leave some.

module _ (g : IdleGraph) (initials : List ℕ) (after : List ℕ) (B : AllBelow g.states initials) (S : Settled g (take g.states (replicate 256 1)) after) where
  -- a state on a cycle is a state
  below : (s : ℕ) → Walk (EdgeIn g) s s → s < g.states
  below s w = walk-below (EdgeIn g) g.states (edges_among g) s s w

  -- and is left
  pub cycles_left : Cyclic g after
  cycles_left = S.keeps (λ s w. get_or-take g.states (replicate 256 1) s 0 (below s w) ∙ get_or-replicate 256 s 1 0 (omega (arith, below s w, g.graph.few)))

  -- where it has a cell
  within : (s : ℕ) → Walk (EdgeIn g) s s → s < length after
  within s w = omega (arith, below s w, S.same_length, length-take-le {A = ℕ} g.states (replicate 256 1) (omega (arith, length-replicate {A = ℕ} 256 1, g.graph.few)))

  tested : shown.Tested (AnyArc (arcs_as g.arcs.now)) (EdgeIn g) (leads_by (arcs_as g.arcs.now) always) (leads_by (arcs_as g.arcs.now) (idle_by g.upper g.lower)) g.states initials
  tested =
      record {
        reach_told = tells (arcs_as g.arcs.now) always;
        cycle-told = tells (arcs_as g.arcs.now) (idle_by g.upper g.lower);
        reach_among = among g.arcs.now always g.first.now g.states g.graph;
        cycle-among = edges_among g;
        starts-below = B;
      }

  -- none is left: there is no cycle
  pub none_left : NoneLeft after true → None ≡ cycle_of (shown_in g initials)
  none_left N =
      ap cycle_of (sym (shown.shown-none tested (λ s R w. N.none_alive refl s (within s w) (cycles_left s w))))

  module _ (reached : List Bool) (M : ReachedCells g.arcs.now initials reached) (o : Option ℕ) (L : LowestLooped g reached o) where
    looped-at : (s : ℕ) → ReachedBy g.arcs.now initials s → Walk (EdgeIn g) s s → LoopedAt g reached s
    looped-at s R w = (⊎_elim (λ y. y.0) (λ n. absurd (n.1 R)) (M s), w)

    -- no state is reached and on a cycle: none is shown
    pub none-reached : o ≡ None → None ≡ cycle_of (shown_in g initials)
    none-reached e = ap cycle_of (sym (shown.shown-none tested (λ s R w. L.none_looped e s (below s w) (looped-at s R w))))

    -- one is: the cycle through the lowest
    module _ (r : ℕ) (e : o ≡ Some r) where
      pub lowest-state : r < g.states
      lowest-state = (L.looped r e).0

      pub on_cycle_lem : Walk (EdgeIn g) r r
      on_cycle_lem = (L.looped r e).1.1

      pub one-reached : Some (cycle_cells (cycle_through g r)) ≡ cycle_of (shown_in g initials)
      one-reached =
          ap cycle_of (sym (shown.shown-through tested r here on_cycle_lem (λ s R w. ⊎_elim (λ k. k) (λ k. absurd ((L.looped r e).2 s k (looped-at s R w))) (most? r s))))
        where
          here : ReachedBy g.arcs.now initials r
          here = ⊎_elim (λ y. y.1) (λ n. absurd (true≢false (sym (L.looped r e).1.0 ∙ n.0))) (M r)
