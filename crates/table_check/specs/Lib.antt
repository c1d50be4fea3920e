-- What the table check tells: what a reader has to believe.
pub mod Check
