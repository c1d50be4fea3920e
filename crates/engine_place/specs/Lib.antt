-- What the parts of refusal 21 say, in the terms of the machine.
pub mod Place
