pub mod SizeLaws
pub mod DaySizes
pub mod ChangeSizes
