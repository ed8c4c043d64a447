pub mod Moments
pub mod Stages
pub mod Writes
