-- Laws of items stored in a destination, of what it takes, and of what the answer tells.
pub mod Putting
pub mod Stored
pub mod Told
