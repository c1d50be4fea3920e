-- What a table is, its rules, its loaded form and its text: what a reader has to believe. Cells says only how code holds counts and arcs. Ruled and
-- FirstBad say once more, as facts, what Rules and Parse compute; that both agree is proved.
pub mod Table
pub mod Classes
pub mod Rules
pub mod Ruled
pub mod Loaded
pub mod Cells
pub mod Index
pub mod Line
pub mod Text
pub mod Parse
pub mod FirstBad
