-- What rows say of the letter tree and of the children of its states: what a reader has to believe.
pub mod Tree
