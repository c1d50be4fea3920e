-- The parts of the letter tree's table, and the call that builds it: what a reader has to believe.
pub mod Cells
pub mod Calls
