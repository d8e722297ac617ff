mod SizeLemmas
mod SummaryLemmas
mod ColumnLemmas
mod LendLemmas
mod PickLemmas
mod NumberLemmas
mod RepeatedLemmas
