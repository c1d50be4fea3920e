-- Laws of the lowest target with a number, of the layers, and of the way back.
pub mod Targets
pub mod Rounds
pub mod Way
