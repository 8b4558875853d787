pub mod Terminals
pub mod Languages
pub mod Rules
pub mod Readers
pub mod Nesting
pub mod Exact
