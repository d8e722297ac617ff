pub mod Causes
pub mod Mixes
