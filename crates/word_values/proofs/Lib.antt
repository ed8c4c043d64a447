pub mod Multiplying
pub mod Tables
pub mod Growing
pub mod Putting
pub mod Following
