pub mod NodeEdges
pub mod Indexed
pub mod Rows
pub mod Kept
