pub mod Words
pub mod Lines
pub mod Texts
mod Worked
pub mod Ranges
pub mod Steps
