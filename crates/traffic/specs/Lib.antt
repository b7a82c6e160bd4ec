pub mod Starts
pub mod Progress
