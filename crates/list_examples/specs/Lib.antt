pub mod Timers
pub mod TimerLaws
pub mod RingFaults
