-- What only the proofs need: how the build that comes next is looked for.
pub mod Search
