-- Laws of the words, the tasks and the order of the refusals.
pub mod Words
