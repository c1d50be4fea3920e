-- Laws of the sheet, of one read back, and of the call. Headlines has the theorems together.
pub mod Sheet
pub mod Stored
pub mod Printed
pub mod Back
pub mod Read
pub mod Calls
pub mod Examples
pub mod Headlines
