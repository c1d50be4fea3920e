-- What the functions on frames say, in the terms of the machine.
pub mod Frames
pub mod Sides
pub mod Output
