pub mod Merging
pub mod Steps
pub mod Calls
pub mod Evaluating
pub mod NameLists
pub mod Texts
