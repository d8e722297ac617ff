mod OrderLemmas
mod BoundsLemmas
mod ExcludesLemmas
pub mod ForCallers
