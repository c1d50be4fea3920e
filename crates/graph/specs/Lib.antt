-- Walks in a graph on numbers. Top to bottom: what a reader has to believe; but `Layers` is for the code that looks for a cycle.
pub mod Lists
pub mod Walk
pub mod Cycle
pub mod Reached
pub mod Shown
pub mod Layers
pub mod Cost
