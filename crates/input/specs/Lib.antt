-- What is said of what was read.
pub mod Read
