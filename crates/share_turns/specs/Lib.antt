pub mod Shares
pub mod Tables
pub mod Holdings
pub mod Loads
pub mod Rows
