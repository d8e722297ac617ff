pub mod Demand
pub mod Queues
pub mod inner
