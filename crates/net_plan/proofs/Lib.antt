pub mod Growing
pub mod Owning
pub mod Making
pub mod Refusing
pub mod Beginning
mod Adding
