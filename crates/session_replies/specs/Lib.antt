-- The lines that a session prints.
pub mod Lines
