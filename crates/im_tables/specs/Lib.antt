pub mod Flags
pub mod Lends
pub mod Table
pub mod inner
pub mod Wholes
