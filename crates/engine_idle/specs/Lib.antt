-- What the search for the idle cycle to be shown says.
pub mod Found
