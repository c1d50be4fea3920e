-- Laws of the rounds.
pub mod Rounds
