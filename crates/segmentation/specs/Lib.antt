-- The ways to cut a word into listed words, and the readings over the letter tree: what a reader has to believe.
pub mod Ways
pub mod Readings
