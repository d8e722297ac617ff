pub mod Asked
pub mod Selection
pub mod Tallies
pub mod inner
