pub mod HeadForms
pub mod HeadRules
pub mod HeadReaders
pub mod Gives
