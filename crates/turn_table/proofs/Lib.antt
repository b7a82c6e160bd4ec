pub mod Lookups
mod Seats
mod CellLists
mod Core
pub mod Notes
mod Words
pub mod Sharing
mod Moves
mod Hands
mod Passing
mod Reseating
