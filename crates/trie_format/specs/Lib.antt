-- The letter tree's table of a list of words, computed and as facts: what a reader has to believe.
pub mod Trie
pub mod Facts
