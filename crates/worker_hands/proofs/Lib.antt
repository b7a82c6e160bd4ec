pub mod Asking
pub mod Again
pub mod Making
