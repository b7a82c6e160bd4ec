pub mod Schedules
pub mod Between
pub mod Sounds
