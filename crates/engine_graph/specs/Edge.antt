-- The edges of a graph.
use Rattle.std.specs.Prelude.{ℕ}
use Rattle.engine_graph.specs.Graph.{IdleEdge}
use Rattle.engine_graph.specs.declared.IdleGraph.{IdleGraph}

-- an idle arc leads from s to r
abbrev pub EdgeIn : IdleGraph → ℕ → ℕ → Type 0
EdgeIn g = IdleEdge g.arcs.now g.upper g.lower
