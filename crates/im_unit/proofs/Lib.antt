mod KeptLemmas
mod BuildLemmas
mod ReadLemmas
mod UnitLemmas
mod PieceLemmas
mod RankLemmas
mod RebuiltLemmas
mod PlanLemmas
mod WidenLemmas
pub mod ForCallers
