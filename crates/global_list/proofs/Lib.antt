pub mod Keyed
pub mod Posts
pub mod FanOuts
pub mod Cuts
pub mod Going
pub mod Standings
