pub mod Rule
pub mod Sending
