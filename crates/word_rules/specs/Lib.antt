pub mod Rules
pub mod Factors
pub mod Scratch
pub mod Index
pub mod Sharing
pub mod Trimmed
pub mod Members
