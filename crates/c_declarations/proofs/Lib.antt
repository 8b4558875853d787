pub mod InitialisersAreRead
pub mod DeclarationsAreRead
