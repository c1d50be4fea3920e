-- What a reply's numbers tell.
pub mod Numbers
