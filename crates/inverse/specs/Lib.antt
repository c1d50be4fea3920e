-- A table with its sides exchanged, what is asked of it, how often a word is among readings, and what a caller receives: what a reader has to believe.
pub mod Inverse
pub mod Readings
pub mod Search
