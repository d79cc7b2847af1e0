pub mod Backwards
pub mod Adding
pub mod Building
pub mod Dropping
pub mod Answers
pub mod Meaning
pub mod Only
pub mod Examples
