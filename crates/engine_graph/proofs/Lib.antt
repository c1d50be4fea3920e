-- Laws of a table's arcs as edges, and the graph of a table.
pub mod Edges
pub mod Letters
pub mod OfTable
pub mod Targets
