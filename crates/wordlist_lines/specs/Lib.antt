-- The lines of a text of words: what a reader has to believe. Next says what the code tells of the line that comes next; Facts says as facts what
-- Lines computes, and that both agree is proved.
pub mod Lines
pub mod Next
pub mod Facts
