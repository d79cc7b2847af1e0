pub mod Nth
pub mod OnYear
