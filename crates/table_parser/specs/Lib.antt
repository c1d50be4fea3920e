-- What the code that reads a text says of it.
pub mod Gathered
