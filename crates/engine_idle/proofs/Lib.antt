-- Laws of the search.
pub mod Cycles
