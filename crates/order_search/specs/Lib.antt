pub mod Tasks
pub mod Trials
pub mod Ahead
