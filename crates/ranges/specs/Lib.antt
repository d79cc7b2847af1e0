pub mod Range
pub mod States
pub mod Insertion
pub mod Build
pub mod Closed
pub mod Words
