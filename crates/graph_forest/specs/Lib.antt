-- What contracts of this crate say, in the order of reading.
pub mod Forest
pub mod Ranks
pub mod Planting
pub mod Nodes
