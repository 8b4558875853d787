pub mod Hashing
pub mod Growing
pub mod Following
pub mod Tabulating
pub mod Beginning
pub mod Summing
