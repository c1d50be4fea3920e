-- What a push meets and leaves, in the terms of the machine.
pub mod Pushing
