pub mod Background
pub mod Reads
pub mod Work
pub mod inner
