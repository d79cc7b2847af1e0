pub mod Given
pub mod Shops
pub mod Resting
pub mod Walking
pub mod Asking
pub mod Starting
pub mod Meaning
