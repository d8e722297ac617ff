-- What only the proofs need.
pub mod Answering
pub mod Closing
pub mod Doing
pub mod Playing
pub mod SettingUp
