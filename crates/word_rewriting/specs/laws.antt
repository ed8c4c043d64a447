-- Lemmas on rewriting of words that proofs here and in the crates above cite.
pub mod Rewriting
pub mod Confluence
pub mod Criterion
pub mod Letters
pub mod NormalForms
pub mod Pairs
pub mod Complete
pub mod Existence
pub mod MoreLeads
pub mod Renumbering
pub mod Connected
pub mod Completion
