-- Laws of the definitions.
pub mod Lists
pub mod Pigeon
pub mod Sorted
pub mod Walk
pub mod Cycle
pub mod Reached
pub mod First
pub mod Shown
pub mod Layers
pub mod Cost
pub mod Examples
