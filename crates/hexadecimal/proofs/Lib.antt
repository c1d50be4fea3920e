-- Laws of the digits, for the crates above.
pub mod Hex
