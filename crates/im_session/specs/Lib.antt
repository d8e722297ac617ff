pub mod Cursors
pub mod Ends
pub mod Reads
pub mod Sessions
pub mod inner
