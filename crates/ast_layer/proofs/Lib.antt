pub mod Chains
pub mod Children
