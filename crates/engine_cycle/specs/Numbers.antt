-- What the search for the cycle through a state says, of the graph of a table's idle arcs. A state's cell holds its number in the layers round that
-- state (graph's `Layers`).
use Rattle.std.specs.Prelude.{ℕ, ◌<◌, ◌≤◌, ◌≡◌, ◌⊎◌, List, length, get_or, Option, Some, None}
use Rattle.table_format.specs.Cells.{arcs_as}
use Rattle.graph.specs.Lists.{zeros}
use Rattle.graph.specs.Shown.{cycle_from}
use Rattle.graph.specs.Layers.{Layer, Layers}
use Rattle.machine.specs.Idle.{leads_by}
use Rattle.machine.specs.Start.{in_cells}
use Rattle.engine_graph.specs.declared.IdleGraph.{IdleGraph}
use Rattle.engine_graph.specs.Graph.{idle_by}
use Rattle.engine_graph.specs.Edge.{EdgeIn}
use Rattle.engine_cycle.specs.declared.Cycle.{Cycle}

-- the number that a state's cell holds
abbrev pub number_in : List ℕ → ℕ → ℕ
number_in numbers x = get_or numbers x 0

-- the states of a cycle from the front of 256 cells, zeros behind them, and their count
abbrev pub cycle_cells : List ℕ → Cycle
cycle_cells l = record { states = in_cells l; length = length l }

module _ (g : IdleGraph) where
  -- o is the lowest state with number far to which an idle arc leads from q, if there is one
  pub record LowestAt (numbers : List ℕ) (far q : ℕ) (o : Option ℕ) : Type 0 where
    pub found : (r : ℕ) → o ≡ Some r → EdgeIn g q r × (number_in numbers r ≡ far) × ((z : ℕ) → EdgeIn g q z → number_in numbers z ≡ far → r ≤ z)
    pub none-there : o ≡ None → (z : ℕ) → EdgeIn g q z → number_in numbers z ≡ far → ⊥

  -- a layer; where it changes something, fewer states are without a number
  pub record LayerAdded (far : ℕ) (before after : List ℕ) : Type 0 where
    pub same_length : length after ≡ length before
    pub layer : Layer (EdgeIn g) far (number_in before) (number_in after)
    pub fewer : (after ≡ before) ⊎ (zeros after < zeros before)

  -- the layers round s up to the one to which s leads
  pub record LayersTo (s : ℕ) (numbers : List ℕ) (far : ℕ) : Type 0 where
    pub layers : Layers (EdgeIn g) s (number_in numbers) far
    pub few : far ≤ 256
    pub leads : (y : ℕ) × EdgeIn g s y × (number_in numbers y ≡ far)

  -- the shortest and first cycle through a state
  abbrev pub cycle_through : ℕ → List ℕ
  cycle_through s = cycle_from (leads_by (arcs_as g.arcs.now) (idle_by g.upper g.lower)) g.states s
