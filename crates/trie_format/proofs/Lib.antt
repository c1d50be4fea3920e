-- Laws of the definitions.
pub mod Names
pub mod Ranks
pub mod Shapes
pub mod Rules
pub mod Arcs
pub mod Headlines
