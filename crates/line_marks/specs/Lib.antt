pub mod Balance
pub mod Kept
pub mod Presumed
pub mod Stripping
pub mod Naming
