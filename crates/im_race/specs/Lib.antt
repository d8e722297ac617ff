pub mod inner
pub mod Jobs
pub mod Lines
pub mod Race
pub mod Report
pub mod Telling
