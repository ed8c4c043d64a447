pub mod Polynomial
pub mod Ideal
pub mod Value
pub mod Subalgebra
pub mod laws
