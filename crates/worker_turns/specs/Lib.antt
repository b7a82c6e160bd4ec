pub mod Passes
pub mod Working
pub mod Turning
