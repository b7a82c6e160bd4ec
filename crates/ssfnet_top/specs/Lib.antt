pub mod Agreeing
pub mod Answering
pub mod Counts
pub mod Ending
pub mod FilePlaces
pub mod Outcome
pub mod Planning
pub mod Refusals
