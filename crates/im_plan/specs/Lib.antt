pub mod Alone
pub mod Altered
pub mod Goes
pub mod Plan
