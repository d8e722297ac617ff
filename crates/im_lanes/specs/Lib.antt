pub mod Masks
pub mod inner
