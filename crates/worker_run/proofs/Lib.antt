pub mod Lanes
pub mod Going
pub mod Laws
pub mod Beginning
