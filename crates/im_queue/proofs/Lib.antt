mod NextLemmas
mod QueueLemmas
mod SearchLemmas
pub mod ForCallers
