pub mod Summaries
pub mod Forms
pub mod Picks
pub mod inner
