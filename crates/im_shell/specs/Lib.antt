pub mod Exits
pub mod Play
pub mod Reports
pub mod Texts
pub mod inner
