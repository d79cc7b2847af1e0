pub mod Count
pub mod Minutes
pub mod Walking
pub mod Tomorrow
pub mod Means
pub mod Only
