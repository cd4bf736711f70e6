pub mod Found
pub mod Sizing
pub mod Defaulting
pub mod Versioning
pub mod Sharing
pub mod Finding
pub mod FromMatches
