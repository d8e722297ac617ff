mod RisingLemmas
mod JournalLemmas
mod GatherLemmas
pub mod ForCallers
