pub mod ReadingLaws
pub mod LimitLaws
