pub mod Degrees
pub mod ReverseLex
pub mod Halves
pub mod RowSums
pub mod Firsts
pub mod FaultLemmas
pub mod PlaceLemmas
