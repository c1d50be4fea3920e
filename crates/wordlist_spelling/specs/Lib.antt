-- A line of characters as a word: what a reader has to believe. Facts says the same without computing it.
pub mod Spelled
pub mod Facts
