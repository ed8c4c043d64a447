-- Lemmas on words that proofs here and in the crates above cite.
pub mod Images
pub mod Words
pub mod Longer
pub mod Reducible
