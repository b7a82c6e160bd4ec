pub mod Walks
pub mod Best
pub mod Paths
pub mod Arms
