pub mod Ends
pub mod Going
pub mod Sent
pub mod Writers
