-- What a key shows: the calls behind it, the ways to cut a word, its sheet, and its print. What a reader has to believe.
pub mod Shows
pub mod Told
pub mod Printed
