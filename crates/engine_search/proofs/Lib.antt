-- Laws of the loop of a call's steps.
pub mod Looping
