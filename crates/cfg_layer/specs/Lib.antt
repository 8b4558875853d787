-- Which plan a function of a graph has, in the order of reading.
pub mod Kinds
pub mod Walked
pub mod Jumps
pub mod Constructs
pub mod Plans
pub mod Tested
pub mod Planned
pub mod Adds
