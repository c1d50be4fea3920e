-- Laws of the definitions.
pub mod Parts
pub mod Letters
pub mod Ways
pub mod Cuts
pub mod WaysAre
pub mod Joined
pub mod Idle
pub mod Starts
pub mod Caller
pub mod Examples
pub mod Headlines
