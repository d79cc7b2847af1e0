pub mod Intervals
pub mod Search
