-- Laws of the numbers, for the crates above.
pub mod Numbers
