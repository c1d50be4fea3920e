-- Laws of the opening, for its proofs and those of the session.
pub mod Outcome
pub mod Told
pub mod Whole
