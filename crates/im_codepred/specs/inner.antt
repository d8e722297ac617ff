pub mod CodeNumbers
pub mod Numbers
pub mod Parts
pub mod Ranged
pub mod Slabs
pub mod Spans
pub mod Tallying
pub mod Walk
