-- Laws of a step: what an arc makes of both sides, the bounds of what a step looks at, its move, and what it comes to.
pub mod Fits
pub mod Moves
pub mod Steps
pub mod Bounds
pub mod Turns
