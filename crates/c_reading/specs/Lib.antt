pub mod Terminals
pub mod Kept
pub mod Cursors
pub mod Reads
