pub mod Lawful
pub mod Passes
pub mod Sent
pub mod inner
