pub mod Looping
pub mod Reaching
pub mod Routing
pub mod Tabling
