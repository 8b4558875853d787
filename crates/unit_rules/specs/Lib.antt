pub mod Units
pub mod UnitNodes
pub mod UnitEdges
pub mod UnitDeltas
