pub mod Statements
pub mod Putting
