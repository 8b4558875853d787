pub mod Finds
pub mod Parts
pub mod Standing
pub mod NodesAbove
pub mod Places
pub mod Walking
