pub mod Chain
pub mod Cursor
pub mod Links
pub mod Merging
pub mod laws
