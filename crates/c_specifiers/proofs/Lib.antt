pub mod Unions
pub mod NamesAreRead
pub mod DeclarationReadings
pub mod SpecifiersAreRead
