mod Firsts
mod Hiding
pub mod Intervals
mod Stepping
