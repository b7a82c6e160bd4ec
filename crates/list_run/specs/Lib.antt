pub mod Endings
pub mod Sending
