pub mod Framing
pub mod Reading
