-- Laws of what is reached.
pub mod Marks
