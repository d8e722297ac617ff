mod RunLemmas
mod DictLemmas
mod NumberingLemmas
mod SetLemmas
mod PickLemmas
mod WholeLemmas
pub mod ForCallers
