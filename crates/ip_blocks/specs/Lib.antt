pub mod Blocks
pub mod Apart
pub mod Tree
pub mod Sums
pub mod Members
