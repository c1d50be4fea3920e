-- Laws of the rows.
pub mod Rows
pub mod Sets
pub mod Adding
pub mod Growing
pub mod Turning
pub mod Linking
