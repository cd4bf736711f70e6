pub mod Counting
pub mod Listing
pub mod Pigeons
pub mod Places
pub mod Probing
pub mod Stamping
pub mod Walking
