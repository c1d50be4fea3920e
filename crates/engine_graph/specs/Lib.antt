-- A table's arcs as a graph.
pub mod Graph
pub mod Edge
