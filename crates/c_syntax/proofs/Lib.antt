pub mod Typedefs
pub mod Ahead
pub mod Readings
pub mod Lexemes
pub mod TypeNamesAreRead
pub mod ExpressionsAreRead
pub mod SimplestAreRead
