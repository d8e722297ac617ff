pub mod Dictionary
pub mod Runs
pub mod inner
