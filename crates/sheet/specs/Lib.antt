-- The answer sheet, what the call answers and leaves, and a sheet's first and last line read back: what a reader has to believe.
pub mod Sheet
pub mod Calls
pub mod Read
