pub mod DataLoop
pub mod Scanning
