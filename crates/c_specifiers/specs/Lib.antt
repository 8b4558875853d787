pub mod Words
pub mod DeclarationSets
pub mod DeclarationSteps
pub mod SpecifierForms
pub mod Inside
pub mod SpecifierRules
pub mod SpecifierReaders
pub mod Gives
