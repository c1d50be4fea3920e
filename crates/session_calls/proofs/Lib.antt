-- Laws of the loop.
pub mod Turns
pub mod Fitting
