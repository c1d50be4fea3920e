-- Laws of the definitions.
pub mod Words
pub mod Beginnings
pub mod Facts
pub mod Lexicon
pub mod Comparing
pub mod Checking
pub mod Headlines
