mod Chains
mod WithinLemmas
