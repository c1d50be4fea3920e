-- Laws of places in a list, of letters, and of what is shown; the theorems.
pub mod Places
pub mod LetterOf
pub mod Shown
pub mod Showing
pub mod Headlines
