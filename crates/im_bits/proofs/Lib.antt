mod PackedLemmas
mod UnpackLemmas
pub mod ForCallers
