-- Laws of the readings that are lent, and of faces; when they hold, as facts.
pub mod Lent
pub mod Faces
pub mod Facts
