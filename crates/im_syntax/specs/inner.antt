pub mod ConditionCode
pub mod ConditionFalls
pub mod FormFalls
pub mod Slots
pub mod Ordered
