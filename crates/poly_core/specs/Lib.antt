pub mod Names
pub mod Text
pub mod Presentation
pub mod Powers
pub mod Merging
pub mod laws
