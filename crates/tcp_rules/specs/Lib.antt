pub mod Clients
pub mod Limits
pub mod Segments
pub mod Servers
pub mod Sessions
pub mod Transfers
