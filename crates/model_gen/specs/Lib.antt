pub mod Draws
pub mod Campus
