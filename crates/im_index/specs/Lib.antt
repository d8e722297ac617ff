pub mod Bounds
pub mod Excludes
