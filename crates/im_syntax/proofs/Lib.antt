pub mod ConditionParts
pub mod FunctionLaws
pub mod Slots
pub mod Crossing
mod CrossingConditions
mod ChoicesLemmas
mod KeywordLaws
pub mod EvenLemmas
