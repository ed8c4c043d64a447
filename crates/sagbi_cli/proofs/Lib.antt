pub mod Asked
pub mod Decimal
pub mod Endings
pub mod Loads
pub mod OneCommand
pub mod Putting
pub mod Words
