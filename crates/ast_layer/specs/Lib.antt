-- In reading order: the file, the nodes, the forest of each construct, and what the pass adds.
pub mod Source
pub mod Operators
pub mod Grouping
pub mod Nodes
pub mod Forests
pub mod Parts
pub mod Allowed
pub mod PassLaws
