pub mod HostRowsOf
pub mod HostOuts
pub mod Left
