-- Laws of the rules: for the code here, and for loops that judge item after item.
pub mod Turn
pub mod Sources
pub mod Faults
