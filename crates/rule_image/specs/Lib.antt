pub mod Listed
pub mod RuleAt
pub mod Reading
pub mod Limits
