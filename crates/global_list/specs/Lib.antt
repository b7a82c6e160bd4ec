pub mod Posting
pub mod Pending
pub mod FanOut
pub mod Executed
pub mod Standing
