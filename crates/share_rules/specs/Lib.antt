pub mod Places
pub mod Runs
pub mod Home
pub mod WordLaws
pub mod HomeLaws
pub mod Gathered
pub mod Held
