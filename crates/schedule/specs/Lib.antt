pub mod Schedules
pub mod Rooms
