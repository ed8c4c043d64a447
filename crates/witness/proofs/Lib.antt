pub mod Witnesses
pub mod Greatest
pub mod Replacing
pub mod Fronts
