pub mod Lawful
pub mod OfPlans
pub mod Opens
pub mod Continuing
pub mod ByPlace
pub mod Histories
