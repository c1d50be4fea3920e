-- Laws of arcs of a class and of the output.
pub mod Narrowing
pub mod Gathered
