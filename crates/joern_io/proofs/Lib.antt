mod Finding
pub mod Taking
mod Known
mod Rest
