pub mod Field
pub mod Residues
pub mod laws
