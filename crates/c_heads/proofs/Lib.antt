pub mod Nested
pub mod SomeEnclosed
pub mod HeadsAreRead
