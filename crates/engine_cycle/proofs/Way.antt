-- The way from layer to layer is the shortest and first cycle.
use Prim.Native.Nat.{ℕ, zero, suc, ◌+◌, ◌-◌, ◌<◌, ◌≤◌}
use native.Mathlib.Omega.{arith}
use native.Mathlib.Numerals.{unary_clauses}
use mathlib.Core.Path.{◌≡◌, refl, sym, ap, ap₂, subst, ◌∙◌}
use mathlib.Core.List.{List, [], ◌∷◌, ◌++◌, append_assoc}
use lib.ListN.{length, set, replicate, length-append}
use Rattle.table_format.specs.Cells.{arcs_as}
use Rattle.graph.proofs.First.{Traced}
use Rattle.graph.proofs.Layers.{Due, due-state, due-next, due-lowest, due-last, layers-cycle}
use Rattle.graph.proofs.Shown.{cycle_from_lem}
use Rattle.machine.specs.Idle.{leads_by}
use Rattle.machine.proofs.Idle.{tells}
use Rattle.std.specs.Prelude.{Option, Some, None}
use Rattle.engine_graph.specs.declared.IdleGraph.{IdleGraph}
use Rattle.engine_graph.specs.Graph.{idle_by}
use Rattle.engine_graph.specs.Edge.{EdgeIn}
use Rattle.engine_graph.proofs.Targets.{edges_among}
use Rattle.engine_cycle.specs.declared.Cycle.{Cycle}
use Rattle.engine_cycle.specs.Numbers.{number_in, LowestAt, LayersTo, cycle_cells, cycle_through}

-- a state more at the front of zeros
set_next : (c : List ℕ) (m x : ℕ) → 0 < m → set (c ++ replicate m 0) (length c) x ≡ (c ++ x ∷ []) ++ replicate (m - 1) 0
set_next [] zero x h = absurd (omega arith)
set_next [] (suc m) x h = simp unary_clauses refl
set_next (y ∷ c) m x h = ap (λ (l : List ℕ). y ∷ l) (set_next c m x h)

module _ (g : IdleGraph) (s : ℕ) (numbers : List ℕ) (top : ℕ) where
  -- all states of the cycle, from s on
  abbrev Whole : List ℕ → Type 0
  Whole [] = ⊥
  Whole (x ∷ l) = (x ≡ s) × (suc (length l) ≡ top) × Traced (EdgeIn g) s s l

  -- the states before q; with q and any way that goes on from it they are the cycle
  pub record OnWay (states : List ℕ) (n far q : ℕ) : Type 0 where
    pub path : List ℕ
    pub cells : states ≡ path ++ replicate (256 - n) 0
    pub count : n ≡ length path
    pub sum : n + far ≡ top
    pub due : 0 < far → Due (EdgeIn g) s (number_in numbers) top far q
    pub so_far_lem : 0 < far → (l : List ℕ) → Traced (EdgeIn g) s q l → suc (length l) ≡ far → Whole (path ++ q ∷ l)
    pub at_end_lem : far ≡ 0 → Whole path

  module _ (R : LayersTo g s numbers top) where
    way-first : OnWay (replicate 256 0) 0 top s
    way-first =
        record {
          path = [];
          cells = refl;
          count = refl;
          sum = omega arith;
          due = λ h. let L = R.leads in due-state (EdgeIn g) s R.layers L.0 L.1 L.2;
          so_far_lem = λ h l T e. (refl, e, T);
          at_end_lem = λ e. absurd (let b = R.layers.bounded s in let a = R.layers.at-state in omega arith);
        }

    pub way-begins : (far : ℕ) → far ≡ top → OnWay (replicate 256 0) 0 far s
    way-begins far e = subst (λ (f : ℕ). OnWay (replicate 256 0) 0 f s) (sym e) way-first

    module _ {states : List ℕ} {n far q : ℕ} (W : OnWay states n far q) where
      module _ (h : 0 < far) where
        pub way-inside : q < g.states
        way-inside = let D = (W.due h).leads in (edges_among g q D.0 D.1).0

        pub way-room : n < 256
        way-room = omega (arith, W.sum, R.few)

        -- an arc leads on
        pub way-leads : (o : Option ℕ) → LowestAt g numbers far q o → o ≡ None → ⊥
        way-leads o L e = let D = (W.due h).leads in L.none-there e D.0 D.1 D.2

        way-next : (o : Option ℕ) → LowestAt g numbers far q o → (r : ℕ) → o ≡ Some r → OnWay (set states n q) (n + 1) (far - 1) r
        way-next o L r small =
            record {
              path = W.path ++ q ∷ [];
              cells =
                  ap (λ (l : List ℕ). set l n q) W.cells ∙ ap (λ (i : ℕ). set (W.path ++ replicate (256 - n) 0) i q) W.count
                  ∙ set_next W.path (256 - n) q (let k = way-room in omega arith) ∙ ap (λ (m : ℕ). (W.path ++ q ∷ []) ++ replicate m 0) {x = 256 - n - 1} {y = 256 - (n + 1)} (omega arith);
              count = let a = length-append W.path (q ∷ []) in let c = W.count in omega arith;
              sum = let a = W.sum in omega arith;
              due = λ k. due-next (EdgeIn g) s R.layers far q (W.due h) r found.1 (omega arith);
              so_far_lem =
                  λ k l T e. subst Whole (sym (append_assoc W.path (q ∷ []) (r ∷ l)))
                  (W.so_far_lem h (r ∷ l) (due-lowest (EdgeIn g) s R.layers far q (W.due h) r found.0 found.2 (length l) (omega arith), T) (omega arith));
              at_end_lem =
                  λ e. let f : far ≡ 1 = omega arith in
                  W.so_far_lem h [] (due-last (EdgeIn g) s R.layers q (subst (λ (i : ℕ). Due (EdgeIn g) s (number_in numbers) top i q) f (W.due h))) (sym f);
            }
          where
            found : EdgeIn g q r × (number_in numbers r ≡ far) × ((z : ℕ) → EdgeIn g q z → number_in numbers z ≡ far → r ≤ z)
            found = L.found r small

        -- at the place i, from the state p, with that many layers to go
        pub way-goes_on : (i p left : ℕ) → i ≡ n → p ≡ q → left ≡ far - 1 → (o : Option ℕ) → LowestAt g numbers far p o → (r : ℕ) → o ≡ Some r → OnWay (set states i q) (n + 1) left r
        way-goes_on i p left ei ep el o L r e =
            subst (λ (j : ℕ). OnWay (set states j q) (n + 1) left r) (sym ei)
            (subst (λ (f : ℕ). OnWay (set states n q) (n + 1) f r) (sym el) (way-next o (subst (λ (x : ℕ). LowestAt g numbers far x o) ep L) r e))

      pub way-ends : (size : ℕ) → size ≡ top → far ≤ 0 → ◌≡◌ {A = Cycle} (record { states = states; length = size }) (cycle_cells (cycle_through g s))
      way-ends size z h = ap (λ (k : ℕ). record { states = states; length = k }) z ∙ go W.path W.cells W.count (W.at_end_lem (omega arith))
        where
          go : (p : List ℕ) → states ≡ p ++ replicate (256 - n) 0 → n ≡ length p → Whole p → ◌≡◌ {A = Cycle} (record { states = states; length = top }) (cycle_cells (cycle_through g s))
          go [] e c w = absurd w
          go (x ∷ l) e c w =
              ap₂ (λ (a : List ℕ) (k : ℕ). record { states = a; length = k }) (e ∙ ap₂ (λ (y k : ℕ). (y ∷ l) ++ replicate (256 - k) 0) w.0 c) (sym w.1)
              ∙ ap cycle_cells
              (sym (cycle_from_lem (EdgeIn g) (leads_by (arcs_as g.arcs.now) (idle_by g.upper g.lower)) g.states (tells (arcs_as g.arcs.now) (idle_by g.upper g.lower)) (edges_among g) s l (layers-cycle (EdgeIn g) s R.layers l w.2 w.1)))
