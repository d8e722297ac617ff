pub mod Holding
pub mod Rebuilt
pub mod Widened
pub mod inner
