pub mod Lanes
pub mod Carried
pub mod Laid
pub mod Ends
