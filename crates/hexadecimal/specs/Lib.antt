-- What the digits mean.
pub mod Hex
