pub mod Shares
pub mod Nets
