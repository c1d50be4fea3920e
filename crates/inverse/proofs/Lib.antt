-- Laws of the definitions; Headlines states together what they come to.
pub mod Table
pub mod Sides
pub mod Machine
pub mod Starts
pub mod Recognition
pub mod Counts
pub mod Caller
pub mod Searches
pub mod Examples
pub mod Headlines
