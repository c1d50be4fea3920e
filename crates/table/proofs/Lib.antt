-- Laws of the calls: the answers, and the text written. Headlines has the theorems together.
pub mod Calls
pub mod Finish
pub mod Written
pub mod Headlines
