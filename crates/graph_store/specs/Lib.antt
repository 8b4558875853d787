pub mod Pool
pub mod Stored
pub mod Values
pub mod Rows
pub mod DeltaRows
pub mod GrownRows
