pub mod Combinations
pub mod CriticalPairs
pub mod IdealBasis
pub mod Criterion
pub mod Remainder
pub mod Quotient
pub mod DegreeStep
