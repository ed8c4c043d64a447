pub mod Walks
pub mod Links
pub mod Nodes
pub mod Steps
pub mod Seeking
pub mod Adding
pub mod Scaling
