-- What is reached in the graph of a table.
pub mod Reach
