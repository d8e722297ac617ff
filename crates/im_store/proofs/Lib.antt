mod CallLemmas
pub mod ForCallers
mod OtherLaws
mod OwnLaws
