-- What the code that reads a text holds of the table so far.
pub mod Draft
