-- What a start tells C.
pub mod Start
