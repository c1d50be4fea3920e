-- Laws of refusal 21: the tests of a link, the frames from the bottom up, and those that are linked by the rules of the sides.
pub mod Links
pub mod Placing
pub mod Linked
