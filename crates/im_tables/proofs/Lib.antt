mod FillLemmas
mod FlagLemmas
pub mod ForCallers
mod GrowthLemmas
pub mod Lists
pub mod Tests
pub mod Wholes
