pub mod Plans
pub mod Joining
pub mod Planning
pub mod Stores
