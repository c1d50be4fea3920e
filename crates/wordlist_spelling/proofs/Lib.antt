-- Laws of the definitions; the theorems.
pub mod Turns
pub mod Told
pub mod Facts
pub mod Headlines
