-- Lemmas that proofs here and in the crates above cite.
pub mod Elements
pub mod WitnessWords
pub mod Decisions
pub mod Degrees
pub mod Rests
pub mod Parts
