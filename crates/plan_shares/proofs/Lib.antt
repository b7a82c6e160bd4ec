pub mod ForEach
pub mod Crossing
pub mod Filling
pub mod InOrder
pub mod Channels
pub mod Between
pub mod Drafting
