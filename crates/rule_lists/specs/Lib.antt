pub mod Listed
pub mod RuleAt
