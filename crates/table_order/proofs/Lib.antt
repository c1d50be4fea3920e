-- Laws of lists in order: joined letters, rising arcs, rising terminal states.
pub mod Joined
pub mod Rising
pub mod Terminals
pub mod Ranges
