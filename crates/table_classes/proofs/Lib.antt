-- Laws of the code of the classes: of rows in cells, of arcs with a class, and of the letters of a row and the lines of rows.
pub mod ClassRows
pub mod Arcs
pub mod Letters
pub mod Chains
