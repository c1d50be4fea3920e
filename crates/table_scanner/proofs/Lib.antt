-- Laws of a text's first line, of a scan of it, and of its bytes in an array.
pub mod FirstLine
pub mod Scanning
pub mod ScannedLine
pub mod Padded
