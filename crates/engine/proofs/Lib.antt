-- Proofs by hand, and the parameters of a call for a reading.
pub mod Walking
pub mod Parameters
