-- Laws of an input's parts and of its query, for the proofs here and those of the session.
pub mod Parts
pub mod Queries
