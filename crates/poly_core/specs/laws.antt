-- Lemmas on texts and presentations that the crates above cite.
pub mod Text
pub mod Presentation
