pub mod Exists
pub mod Answers
