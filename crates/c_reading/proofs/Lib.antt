pub mod ItemsAt
pub mod Places
pub mod TerminalsDiffer
pub mod InScope
