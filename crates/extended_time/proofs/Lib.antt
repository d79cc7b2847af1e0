pub mod Sums
pub mod Moments
