pub mod Folding
pub mod Past
pub mod Representing
pub mod Settling
pub mod SignalValues
pub mod Stepping
pub mod Zipping
