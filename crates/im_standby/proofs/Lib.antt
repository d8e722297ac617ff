mod CommitLaws
mod EndLemmas
mod FollowLemmas
mod LawfulLemmas
mod StandingLemmas
mod StoreLemmas
mod TableLemmas
