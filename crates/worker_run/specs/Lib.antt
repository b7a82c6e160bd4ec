pub mod Working
pub mod Going
