-- Lemmas that tests cite.
pub mod Members
