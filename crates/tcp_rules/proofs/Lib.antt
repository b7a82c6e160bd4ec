pub mod Cases
pub mod ClientRanges
pub mod Delivering
pub mod Holes
pub mod Lasting
pub mod Receiving
pub mod Sending
pub mod ServerRanges
pub mod Sessions
pub mod Windows
mod Worked
