-- Laws of the kinds of lines, of parts of lists, of rows and cells, of the table so far, of what a line earns after it, and of one line more.
pub mod LineKinds
pub mod Parts
pub mod Rows
pub mod Filled
pub mod Tracked
pub mod Judged
pub mod More
