pub mod Numbers
pub mod Parsed
pub mod Schedule
pub mod Table
pub mod Words
