pub mod Chains
pub mod Kept
pub mod Readied
pub mod Runs
pub mod Standing
pub mod Transitions
pub mod VersionsOf
pub mod inner
