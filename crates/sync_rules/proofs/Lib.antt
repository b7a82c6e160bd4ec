mod Rows
pub mod Runs
pub mod Writes
pub mod Standing
pub mod Windows
pub mod Bounds
pub mod Executes
pub mod Posts
pub mod Enters
pub mod Reports
pub mod Cores
pub mod Stuck
pub mod Wholes
pub mod States
pub mod Measures
