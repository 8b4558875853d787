pub mod Types
pub mod TypeDeltas
