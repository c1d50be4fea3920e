-- The parts of a session's input, and its query: Parts and Query. Asking says only what functions promise, in their terms.
pub mod Parts
pub mod Query
pub mod Asking
