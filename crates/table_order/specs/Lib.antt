-- When the arcs of a table stand in order.
pub mod Order
