pub mod Reacting
pub mod RingLaws
pub mod Rings
