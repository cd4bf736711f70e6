pub mod Apart
pub mod Forking
