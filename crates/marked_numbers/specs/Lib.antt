pub mod Least
pub mod Blocks
