mod AgreementLemmas
mod AgreesLemmas
mod AreaLemmas
mod BeginLemmas
mod BuildLemmas
pub mod CountLaws
mod DropLemmas
mod EffectLemmas
mod EndLemmas
pub mod ForCallers
mod HeldLemmas
mod JournalLemmas
mod ListedLemmas
mod ListLemmas
mod NoteLemmas
mod NotingLemmas
mod PlacedLemmas
mod RangeLemmas
mod RestLemmas
mod SlotLemmas
mod SoundLemmas
mod StaleLemmas
mod SumLaws
mod WaitLemmas
mod WritesLemmas
