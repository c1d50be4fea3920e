-- What the code says: numbers round a state, and the cycle through it.
pub mod Numbers
