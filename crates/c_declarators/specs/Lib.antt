pub mod DeclaratorForms
pub mod DeclaratorRules
pub mod DeclaratorReaders
