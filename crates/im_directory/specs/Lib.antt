pub mod Agreement
pub mod Agrees
pub mod Effects
pub mod Lists
pub mod Slots
pub mod Sound
pub mod Steps
pub mod inner
