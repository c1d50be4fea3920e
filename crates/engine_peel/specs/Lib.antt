-- What peeling says.
pub mod Peel
