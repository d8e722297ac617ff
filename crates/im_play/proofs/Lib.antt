pub mod ComesLaws
mod DroppedLemmas
pub mod ForCallers
pub mod KnownLemmas
mod LinesLemmas
mod SessionsLemmas
pub mod StayingLaws
mod ThereLemmas
