pub mod FirstUnit
pub mod Rest
pub mod Reads
pub mod Grammar
