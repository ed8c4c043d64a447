-- Lemmas on lists of terms that proofs in the crates above cite.
pub mod Popping
