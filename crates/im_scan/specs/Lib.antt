pub mod Faces
pub mod Parts
pub mod Pinned
pub mod Merging
pub mod inner
