pub mod Words
pub mod Bases
pub mod Statements
pub mod Samples
pub mod laws
