pub mod Upto
pub mod Tabled
pub mod Days
pub mod Direct
pub mod Dates
pub mod Weeks
pub mod Offsets
