pub mod Fronts
pub mod Parts
pub mod Steps
pub mod Joined
pub mod Input
