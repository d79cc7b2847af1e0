pub mod Packed
pub mod Answers
