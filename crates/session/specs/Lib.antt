-- What a session prints: Session. Next says what the call for a line answers, and leaves in what it is lent, Given which texts the opening and
-- the calls after it give, one after another.
pub mod Session
pub mod Next
pub mod Given
