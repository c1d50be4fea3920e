-- Laws of the definitions.
pub mod Sorted
pub mod Growth
pub mod Kept
pub mod Finding
pub mod Storing
pub mod Headlines
