pub mod Drafted
pub mod Delivering
pub mod Worked
mod TrueRows
mod OpenRows
pub mod Owning
pub mod Fitted
pub mod Checks
pub mod Finding
pub mod Reopened
pub mod Lists
pub mod Counts
pub mod Entries
pub mod Places
pub mod Windows
pub mod Histories
