pub mod Hours
pub mod Rooms
