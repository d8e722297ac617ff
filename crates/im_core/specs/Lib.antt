pub mod inner
pub mod Answers
pub mod Pins
pub mod Seen
pub mod Tasks
