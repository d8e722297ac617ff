pub mod Logs
pub mod Turns
pub mod Passes
pub mod inner
