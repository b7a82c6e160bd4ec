pub mod Best
pub mod Leaving
