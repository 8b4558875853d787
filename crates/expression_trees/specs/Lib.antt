pub mod Saying
pub mod Trees
pub mod Simplest
pub mod Spelling
pub mod ExactTrees
pub mod ExpressionsAreTrees
