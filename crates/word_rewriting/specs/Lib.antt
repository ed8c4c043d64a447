pub mod Rewriting
pub mod Completeness
pub mod Renumbering
pub mod Completion
pub mod Statements
pub mod Samples
pub mod laws
