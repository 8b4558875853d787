pub mod ReadLater
pub mod UnitsAreRead
pub mod Replaying
pub mod ReadTwice
pub mod AheadOfFiles
pub mod ItemByItem
