pub mod Fitting
pub mod Addressed
pub mod Found
pub mod Counted
