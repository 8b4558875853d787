pub mod Numbering
pub mod Trees
pub mod SpecifiersAreTrees
