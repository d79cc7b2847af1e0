pub mod Stores
pub mod Decimals
pub mod Lines
