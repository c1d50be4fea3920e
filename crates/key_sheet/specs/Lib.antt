-- The key of a word, and the call that writes it: what a reader has to believe.
pub mod Key
pub mod Gathered
pub mod Calls
