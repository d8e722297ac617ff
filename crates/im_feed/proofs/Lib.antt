pub mod FirstLemmas
pub mod RoundLemmas
pub mod StepLemmas
