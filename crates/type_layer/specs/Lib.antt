pub mod Gathered
pub mod PassLaws
