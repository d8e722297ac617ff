pub mod Stale
pub mod inner
