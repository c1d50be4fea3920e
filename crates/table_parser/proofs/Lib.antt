-- Laws of the parse from a scanned line on, and of reading line after line.
pub mod ParseLine
pub mod Items
