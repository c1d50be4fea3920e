-- The first line of a text, as code scans it.
pub mod Scan
