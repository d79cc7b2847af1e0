pub mod Made
pub mod Meaning
pub mod Whole
