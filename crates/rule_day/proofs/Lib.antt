pub mod Bridges
pub mod Agreeing
pub mod Making
