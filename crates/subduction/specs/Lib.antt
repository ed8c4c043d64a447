pub mod Basis
pub mod Subduced
pub mod Steps
pub mod NewElements
pub mod Settling
pub mod Cutting
pub mod laws
