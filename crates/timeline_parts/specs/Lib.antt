pub mod Tables
pub mod RouteMap
pub mod Sending
pub mod Settling
pub mod Parts
