-- What contracts of this crate say, in the order of reading.
pub mod Member
pub mod Rules
pub mod Plan
pub mod Walker
pub mod Joined
pub mod Sets
pub mod Sequence
