pub mod Sessions
pub mod Sources
pub mod Speaking
pub mod Stretches
pub mod Delivered
mod Worked
