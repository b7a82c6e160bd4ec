pub mod Moving
pub mod Joining
pub mod Ranges
pub mod Channels
pub mod Addressing
mod Worked
