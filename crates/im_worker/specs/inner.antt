pub mod Beginning
pub mod Built
pub mod Rests
pub mod Running
pub mod Standing
pub mod Working
