-- The letters of words, and how a sheet's characters are shown: what a reader has to believe.
pub mod Letters
pub mod Shown
