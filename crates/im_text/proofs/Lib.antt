mod FieldLemmas
mod PageLemmas
mod ReadLemmas
pub mod Inserted
