pub mod EachText
pub mod InOrder
pub mod OneSplit
pub mod Runs
pub mod TokenBytes
pub mod Walked
