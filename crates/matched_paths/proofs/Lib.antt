pub mod PathLemmas
pub mod Folding
pub mod Closing
pub mod Needing
