mod SlotLemmas
mod ShownLemmas
mod InPlace
mod PieceLemmas
mod FitLemmas
mod PartLemmas
mod PinLemmas
mod PrunedLemmas
mod RangeLemmas
pub mod ForCallers
pub mod MergeLemmas
mod NextLemmas
mod WalkLemmas
mod KeptPlaces
mod BesideLemmas
mod RunLemmas
mod CodedLemmas
mod CountedLemmas
mod ByCodeLemmas
mod SummedLemmas
mod LeftLemmas
mod LeftPart
mod OverlaidLemmas
