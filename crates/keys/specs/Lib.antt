-- What is said of printing a word's key.
pub mod Printed
