pub mod DelayBounds
mod Keeping
mod Worked
