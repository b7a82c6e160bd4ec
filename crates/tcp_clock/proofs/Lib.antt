pub mod Ranges
mod Worked
