-- Laws of the call for a reading.
pub mod Placed
pub mod Resuming
