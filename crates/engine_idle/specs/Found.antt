-- What the search for the idle cycle to be shown says, of the graph of a table's idle arcs.
use Rattle.std.specs.Prelude.{ℕ, ◌<◌, ◌≡◌, Bool, true, false, List, [], ◌∷◌, length, get_or, Option, Some, None}
use Rattle.table_format.specs.Cells.{arcs_as}
use Rattle.graph.specs.Walk.{Walk}
use Rattle.graph.specs.Shown.{shown_cycle}
use Rattle.machine.specs.Idle.{leads_by, always}
use Rattle.engine_graph.specs.declared.IdleGraph.{IdleGraph}
use Rattle.engine_graph.specs.Graph.{idle_by}
use Rattle.engine_graph.specs.Edge.{EdgeIn}
use Rattle.engine_cycle.specs.declared.Cycle.{Cycle}
use Rattle.engine_cycle.specs.Numbers.{cycle_cells}

-- whether none is alive
pub record NoneLeft (alive : List ℕ) (r : Bool) : Type 0 where
  pub none_alive : r ≡ true → (s : ℕ) → s < length alive → get_or alive s 0 ≡ 1 → ⊥
  pub one_alive : r ≡ false → (s : ℕ) × (s < length alive) × (get_or alive s 0 ≡ 1)

module _ (g : IdleGraph) (reached : List Bool) where
  -- a state is reached and on a cycle
  abbrev pub LoopedAt : ℕ → Type 0
  LoopedAt s = (get_or reached s false ≡ true) × Walk (EdgeIn g) s s

  -- the lowest that is
  pub record LowestLooped (o : Option ℕ) : Type 0 where
    pub looped : (r : ℕ) → o ≡ Some r → (r < g.states) × LoopedAt r × ((s : ℕ) → s < r → LoopedAt s → ⊥)
    pub none_looped : o ≡ None → (s : ℕ) → s < g.states → LoopedAt s → ⊥

-- the states of a cycle, if there is one
abbrev pub cycle_of : List ℕ → Option Cycle
cycle_of [] = None
cycle_of (s ∷ l) = Some (cycle_cells (s ∷ l))

-- the cycle to be shown: any arcs reach, idle ones make the cycle
abbrev pub shown_in : IdleGraph → List ℕ → List ℕ
shown_in g initials = shown_cycle (leads_by (arcs_as g.arcs.now) always) (leads_by (arcs_as g.arcs.now) (idle_by g.upper g.lower)) g.states initials
