-- Laws of lines and of a reading's lines: their parts stored one after another, their size, what an ordinal's columns say, and that a
-- reading's lines are those that are laid as the document says.
pub mod Lists
pub mod Rows
pub mod Lines
pub mod Stores
pub mod Ordinal
pub mod Laid
