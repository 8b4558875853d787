-- What contracts of this crate say, in the order of reading.
pub mod Plans
pub mod Edges
pub mod Jumping
pub mod Tables
pub mod Steps
pub mod Works
