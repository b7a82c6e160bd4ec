pub mod Tallied
pub mod Going
pub mod Counting
pub mod Beginning
pub mod Ending
pub mod Laws
