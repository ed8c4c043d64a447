pub mod Tracking
pub mod Expansion
pub mod laws
