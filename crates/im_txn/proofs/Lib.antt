mod CellLemmas
mod StandingLemmas
mod AgreesLemmas
mod LastsLemmas
mod LockLemmas
mod GivenLemmas
pub mod LeastLaws
pub mod ForCallers
