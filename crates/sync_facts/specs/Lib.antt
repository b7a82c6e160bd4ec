pub mod Aligned
pub mod Nets
