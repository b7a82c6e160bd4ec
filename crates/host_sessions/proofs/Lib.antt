pub mod Entering
pub mod Tabling
