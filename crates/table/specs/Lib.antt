-- What each call answers and leaves: what a reader has to believe.
pub mod Calls
