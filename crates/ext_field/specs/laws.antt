-- Lemmas on the fields of pairs that proofs here and in the crates above cite.
pub mod Equal
pub mod Norms
pub mod Pairs
pub mod Primes
pub mod Sizes
