pub mod Once
pub mod Facts
pub mod Fits
