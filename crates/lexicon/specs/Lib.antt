-- A list of words: when a word is good, the words in a list's bytes, their beginnings, and the first fault. What a reader has to believe.
pub mod Words
pub mod Beginnings
pub mod Lexicon
pub mod FirstBad
pub mod Check
