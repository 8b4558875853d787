pub mod Trees
pub mod Forms
pub mod Innermost
pub mod StatementsAreTrees
