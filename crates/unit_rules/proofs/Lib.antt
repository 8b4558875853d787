pub mod Hanging
pub mod Facts
pub mod Shapes
pub mod Fits
