pub mod Cores
pub mod Stepping
pub mod Leading
pub mod Beginning
pub mod Reading
pub mod Ending
