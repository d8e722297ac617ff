mod BlockLemmas
pub mod FaultLemmas
pub mod MapLemmas
pub mod GroupLemmas
mod QueryLemmas
pub mod StatementLemmas
pub mod FitLemmas
pub mod RowLemmas
pub mod ServeLemmas
pub mod TargetLemmas
pub mod Fitting
pub mod EvenLemmas
