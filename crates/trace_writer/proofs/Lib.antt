mod Worked
pub mod Tallies
pub mod Merges
pub mod Nexts
pub mod Sends
pub mod Writing
