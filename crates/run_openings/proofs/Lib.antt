pub mod Again
pub mod Fitting
pub mod Room
pub mod Longer
