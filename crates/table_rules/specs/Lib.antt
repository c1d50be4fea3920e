-- What the code of the rules says, in the terms of the rules.
pub mod Judge
