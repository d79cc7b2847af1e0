pub mod Tiling
pub mod Unique
pub mod Filling
pub mod Merging
pub mod Answering
pub mod Minutes
pub mod Meaning
