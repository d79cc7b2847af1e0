pub mod Plan
pub mod Parts
