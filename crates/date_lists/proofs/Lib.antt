pub mod Loops
pub mod Forms
