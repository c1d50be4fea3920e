-- Laws of a session, for its proofs and those of the program.
pub mod Told
pub mod Next
pub mod Given
pub mod Headlines
pub mod Cases
