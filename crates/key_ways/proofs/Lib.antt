-- Laws of the definitions, and the theorems.
pub mod OneCall
pub mod KeyCalls
pub mod Joined
pub mod Ways
pub mod Never
pub mod Shows
pub mod Sheets
pub mod Told
pub mod InPrint
pub mod ShownLines
pub mod Printing
pub mod Headlines
pub mod Examples
