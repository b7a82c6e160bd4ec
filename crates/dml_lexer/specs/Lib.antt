pub mod FirstFront
pub mod Tokens
