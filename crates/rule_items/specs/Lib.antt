pub mod Codes
pub mod Years
pub mod Dates
pub mod Weekdays
pub mod Spans
