pub mod Setting
pub mod Command
pub mod Asked
pub mod Good
