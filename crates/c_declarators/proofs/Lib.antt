pub mod Alike
pub mod DeclaratorsAreRead
