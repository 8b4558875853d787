-- How a `List` stores its items.
pub mod List
