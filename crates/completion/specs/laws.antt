-- Lemmas that proofs here and in the crates above cite.
pub mod Marks
pub mod Printing
pub mod Unchanged
