pub mod Cones
pub mod Spreading
pub mod Walk
