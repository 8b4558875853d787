pub mod Reaching
pub mod Steps
pub mod Edges
pub mod Renumbered
