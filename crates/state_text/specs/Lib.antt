pub mod Limits
pub mod LineReadings
pub mod Parts
pub mod StateText
pub mod Writing
