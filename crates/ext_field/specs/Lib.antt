pub mod PairField
pub mod laws
