pub mod TypedLocals
pub mod NamedForest
