pub mod LowPairs
pub mod ShortMonomials
pub mod SmallWords
