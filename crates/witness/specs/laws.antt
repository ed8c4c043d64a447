-- Lemmas on witnesses that proofs here and in the crates above cite.
pub mod Letters
pub mod Short
pub mod Members
pub mod Longer
