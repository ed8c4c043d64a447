-- Lemmas that tests cite.
pub mod Sums
pub mod Generators
pub mod PairedNames
