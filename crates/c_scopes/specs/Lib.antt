pub mod Scopes
pub mod Events
pub mod KeptScopes
