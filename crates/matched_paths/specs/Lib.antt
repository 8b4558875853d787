-- What contracts of this crate say, in the order of reading.
pub mod Ends
pub mod Edges
pub mod Path
pub mod Matched
pub mod Folded
pub mod Wanted
