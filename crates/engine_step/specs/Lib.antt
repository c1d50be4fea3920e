-- The setting of a search, and what a step says in it, in the terms of the machine.
pub mod Setting
pub mod Stepping
