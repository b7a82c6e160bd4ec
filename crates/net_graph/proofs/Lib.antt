pub mod AllSeen
pub mod Exits
pub mod ListsRead
pub mod Lookup
pub mod NameTables
pub mod Seconds
pub mod Walks
pub mod Worked
