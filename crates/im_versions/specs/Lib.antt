pub mod Form
pub mod Versions
