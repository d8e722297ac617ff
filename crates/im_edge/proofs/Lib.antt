pub mod ForCallers
pub mod Copies
mod AdapterLemmas
