pub mod Trying
pub mod Explaining
pub mod Differences
pub mod FirstDifferences
