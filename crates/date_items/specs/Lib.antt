pub mod Items
pub mod Parts
