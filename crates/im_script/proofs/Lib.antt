pub mod Told
pub mod Cuts
pub mod Once
pub mod Sessions
pub mod Feeds
mod Generating
mod Lengths
