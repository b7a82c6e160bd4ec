pub mod Openings
pub mod Numbers
