-- What contracts of this crate say, in the order of reading.
pub mod Faults
pub mod Sinks
pub mod Held
pub mod Files
pub mod Tape
pub mod Shelf
pub mod Disk
pub mod formers
