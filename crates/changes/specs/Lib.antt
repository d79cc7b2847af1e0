pub mod Days
pub mod Search
pub mod Meaning
pub mod Words
