pub mod Order
pub mod Pending
pub mod Machine
pub mod Run
pub mod Laws
