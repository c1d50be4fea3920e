-- Laws of the table's cells.
pub mod Storing
pub mod Filling
pub mod Calls
pub mod Headlines
