pub mod Levels
pub mod Placed
pub mod Reducing
pub mod Sharing
pub mod ComputedTables
pub mod Expanded
pub mod Merging
