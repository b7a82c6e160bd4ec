pub mod Members
pub mod Places
pub mod Resolving
pub mod Roots
