pub mod Telling
pub mod Walking
pub mod Planning
pub mod Trees
pub mod Marking
pub mod Adding
