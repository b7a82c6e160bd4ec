pub mod BarrierFields
pub mod Crossings
pub mod Inside
