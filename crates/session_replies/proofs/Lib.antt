-- Laws of a line stored in a buffer.
pub mod Lines
