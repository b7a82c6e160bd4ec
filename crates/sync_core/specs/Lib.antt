pub mod Choosing
pub mod Cores
pub mod Driving
pub mod Steps
