pub mod Between
pub mod Leaving
pub mod Lines
pub mod Machine
pub mod Requests
