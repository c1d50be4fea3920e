-- Laws of the definitions.
pub mod Bytes
pub mod Further
pub mod Front
pub mod Headlines
