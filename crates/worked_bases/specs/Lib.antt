pub mod Elements
pub mod LowBases
pub mod Rings
pub mod WordsTo
