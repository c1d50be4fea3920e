-- What a destination takes, and what the answer tells: what a reader has to believe.
pub mod Stored
pub mod Told
