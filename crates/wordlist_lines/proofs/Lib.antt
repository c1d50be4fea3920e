-- Laws of the lines of a text: where a line ends, what is left of it without blanks, and the next that holds a word; the theorems that say what
-- the definitions mean, and an example.
pub mod Tests
pub mod Lines
pub mod Turns
pub mod Texts
pub mod Sizes
pub mod Trimming
pub mod Numbers
pub mod Places
pub mod Headlines
pub mod Examples
