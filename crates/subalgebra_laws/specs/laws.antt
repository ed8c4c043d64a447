-- Lemmas that proofs here and in the crates above cite.
pub mod Members
pub mod Fronts
pub mod Letters
