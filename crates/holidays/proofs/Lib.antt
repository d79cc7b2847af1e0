pub mod CheckLaws
pub mod BitLaws
pub mod CountLaws
pub mod SearchLaws
pub mod DayLaws
pub mod WalkLaws
