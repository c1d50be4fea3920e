-- What the code answers, in the terms of the machine's `asked`.
pub mod Admission
