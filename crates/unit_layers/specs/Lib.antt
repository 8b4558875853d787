pub mod Chains
pub mod Adding
pub mod Ready
pub mod PassLaws
