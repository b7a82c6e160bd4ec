pub mod Hands
pub mod Asked
pub mod Stepping
