pub mod Steps
pub mod Holding
pub mod PartialCode
pub mod Narrowing
pub mod Places
pub mod Ends
pub mod Chosen
