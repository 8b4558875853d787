pub mod Counts
pub mod Steps
pub mod Chaining
pub mod Bodies
pub mod Places
pub mod Inner
pub mod Within
