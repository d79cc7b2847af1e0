pub mod Parts
pub mod Ready
