-- The numbers of the refusals, and answers in numbers: what a reader has to believe.
pub mod Refusal
pub mod Told
