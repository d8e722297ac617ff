-- What only the proofs need: how what a store keeps agrees with its history.
pub mod Holds
pub mod Kept
pub mod LastColumns
pub mod Lending
