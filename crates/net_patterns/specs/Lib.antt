pub mod Choices
pub mod Prepared
pub mod Simulated
pub mod Drawing
pub mod Patterns
pub mod Differences
