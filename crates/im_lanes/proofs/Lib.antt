mod BitLemmas
mod LaneLemmas
mod MaskLemmas
pub mod ForCallers
