pub mod BitsLaws
pub mod SignLaws
pub mod ReadLaws
pub mod AheadLaws
