mod CutLemmas
mod VersionLemmas
pub mod ForCallers
