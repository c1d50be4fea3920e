-- Laws of the C interface.
pub mod Sizes
pub mod Replies
