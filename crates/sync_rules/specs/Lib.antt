pub mod Parts
pub mod Bounds
pub mod Shared
pub mod Sound
pub mod Steps
pub mod Measure
