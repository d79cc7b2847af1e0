pub mod Spans
pub mod Cuts
pub mod Refusal
