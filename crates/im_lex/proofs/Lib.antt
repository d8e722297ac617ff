pub mod Texts
pub mod Fits
pub mod Rounds
pub mod Capitals
pub mod StraightLaws
