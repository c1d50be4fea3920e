-- A line of an answer sheet, and the lines of a reading: what a reader has to believe. Laid says as facts what Lines computes; that both
-- agree is proved.
pub mod Lines
pub mod Laid
