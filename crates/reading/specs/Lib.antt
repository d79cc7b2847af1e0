pub mod Ruled
pub mod Operators
pub mod Reading
pub mod Ranging
pub mod Agreement
