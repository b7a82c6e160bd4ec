pub mod Tables
pub mod Sending
pub mod Sent
pub mod Settles
