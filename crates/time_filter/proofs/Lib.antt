pub mod Rows
pub mod Filling
pub mod Judging
pub mod Covers
pub mod Examples
