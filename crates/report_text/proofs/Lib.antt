pub mod Written
pub mod Wording
pub mod Tokens
pub mod Bundling
pub mod BusNumbers
