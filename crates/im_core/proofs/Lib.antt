mod BeginLemmas
mod CountLemmas
mod FetchLemmas
pub mod ForCallers
mod HoldsLemmas
mod HorizonLemmas
mod LastColumnLemmas
mod LendLemmas
mod OpenLemmas
mod PinLemmas
mod RefusalLemmas
mod RewriteLemmas
mod SeenLemmas
mod TaskLemmas
mod UnitLemmas
mod ViewLemmas
mod WeightLemmas
mod WriteLemmas
