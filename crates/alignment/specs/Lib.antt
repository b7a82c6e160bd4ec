pub mod Alignment
pub mod Classes
pub mod Forests
