-- Lemmas on polynomials, ideals and subalgebras that proofs here and in the crates above cite.
pub mod Sums
pub mod Ring
pub mod Same
pub mod Value
pub mod Decreasing
pub mod Terms
pub mod Lowering
pub mod Leads
pub mod Canonical
pub mod Ideal
pub mod Congruence
pub mod Membership
pub mod Degrees
pub mod Coefficients
pub mod NormalForm
pub mod Components
pub mod ReducedBasis
