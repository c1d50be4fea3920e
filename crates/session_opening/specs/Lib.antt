-- How a session is opened: Opened says by an input what it opens, Outcome what the call answers, and leaves in what it is lent.
pub mod Opened
pub mod Outcome
