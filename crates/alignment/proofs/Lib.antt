pub mod Joining
pub mod Growing
pub mod Tying
pub mod Numbering
pub mod Lawful
pub mod Worked
