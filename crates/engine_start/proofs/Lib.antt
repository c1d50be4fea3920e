-- Laws of the start.
pub mod Loads
pub mod Starts
