pub mod Counting
pub mod Onward
pub mod Steps
pub mod Values
pub mod Found
pub mod Lent
pub mod Ended
