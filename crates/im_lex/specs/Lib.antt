pub mod Bytes
pub mod Lexing
pub mod inner
