pub mod AnswersLemmas
pub mod BesideLemmas
pub mod ClosingLemmas
pub mod Crossing
mod DoneLemmas
pub mod FinishLemmas
pub mod JobLaws
pub mod LinesLemmas
pub mod OutcomesLemmas
mod PlayingLemmas
pub mod RaceLemmas
pub mod SetUpLemmas
pub mod TellingLaws
