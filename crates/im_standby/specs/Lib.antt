pub mod Following
pub mod Members
pub mod Standing
pub mod Store
pub mod inner
