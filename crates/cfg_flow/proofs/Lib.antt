pub mod Members
pub mod Leaping
pub mod Placing
pub mod Siting
pub mod Joining
pub mod Rising
