-- A list of words in dictionary order, each once: what a reader has to believe.
pub mod Sorted
pub mod Placed
