-- What a call's steps say, in the terms of the machine.
pub mod Searching
