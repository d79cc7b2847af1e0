pub mod Shop
pub mod Answer
pub mod Meaning
pub mod Looking
