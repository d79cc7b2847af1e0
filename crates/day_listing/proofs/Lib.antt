pub mod ListLaws
pub mod Meaning
