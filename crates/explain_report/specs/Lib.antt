pub mod Explaining
pub mod Causing
pub mod Deciding
pub mod Dumping
