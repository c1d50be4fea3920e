-- A turn of the loop over a text's lines, and the theorems.
pub mod Adding
pub mod Going
pub mod LineWords
pub mod Facts
pub mod Taken
pub mod Headlines
