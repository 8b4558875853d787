-- What contracts of this crate say, in the order of reading.
pub mod Ways
pub mod Links
pub mod Positions
pub mod Vertices
pub mod Crossings
