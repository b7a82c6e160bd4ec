pub mod Words
pub mod Posting
pub mod Taking
pub mod Reporting
pub mod Allowed
pub mod SoundPairs
