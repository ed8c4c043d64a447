-- Lemmas on fields that proofs here and in the crates above cite.
pub mod Field
pub mod Primes
pub mod Residues
