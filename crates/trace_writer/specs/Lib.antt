pub mod Fields
pub mod Heads
pub mod Merging
pub mod Report
pub mod Sending
pub mod Tallying
pub mod Trace
pub mod Words
