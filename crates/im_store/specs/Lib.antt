pub mod inner
pub mod Sides
