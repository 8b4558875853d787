pub mod PartNames
pub mod PartRules
pub mod PartReaders
pub mod Ties
pub mod ExactParts
