pub mod DeclarationForms
pub mod InitialiserRules
pub mod InitialiserReaders
pub mod DeclarationRules
pub mod DeclarationReaders
