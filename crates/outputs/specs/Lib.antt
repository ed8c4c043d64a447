pub mod Answers
pub mod Completing
pub mod RelationsText
pub mod Summary
