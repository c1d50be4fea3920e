-- Laws of the key.
pub mod Lists
pub mod Gathering
pub mod Calls
pub mod Headlines
