pub mod Bools
pub mod Reached
pub mod Moves
pub mod Flowing
pub mod Rising
pub mod Leading
