mod Cutting
mod PickLemmas
mod RunLemmas
pub mod ForCallers
mod WideRunLemmas
mod WidthLemmas
pub mod WideLaws
