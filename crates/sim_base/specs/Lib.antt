pub mod CurrentFile
pub mod MemoryObjects
pub mod Outside
pub mod SegmentFields
pub mod Traffic
