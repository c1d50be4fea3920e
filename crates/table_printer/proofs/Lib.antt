-- Laws of the lines that are written.
pub mod Lines
