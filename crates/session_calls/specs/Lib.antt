-- What calls for a reading come to.
pub mod Calls
