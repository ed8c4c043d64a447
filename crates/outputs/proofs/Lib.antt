pub mod Completed
pub mod Lines
pub mod Queries
