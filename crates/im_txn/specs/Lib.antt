pub mod Activity
pub mod Agreement
pub mod Agrees
pub mod Effects
pub mod LockCells
pub mod Standing
pub mod inner
