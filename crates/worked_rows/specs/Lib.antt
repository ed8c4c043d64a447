pub mod Rings
pub mod laws
