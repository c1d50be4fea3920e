-- The faces of letters and the readings that are lent for a sheet, and when they hold: what a reader has to believe.
pub mod Faces
pub mod Lent
