pub mod Merging
pub mod SignalLiterals
