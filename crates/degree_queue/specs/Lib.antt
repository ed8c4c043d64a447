pub mod DegreeQueue
pub mod DegreeStacks
pub mod Links
pub mod Lists
