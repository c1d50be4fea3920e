-- Laws of the cells after a push.
pub mod Cells
