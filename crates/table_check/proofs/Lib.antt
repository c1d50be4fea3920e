-- Laws of the table check: the table's parts in its cells, what cells that hold a table say of it, and what the check tells.
pub mod Parts
pub mod Holding
pub mod Passing
