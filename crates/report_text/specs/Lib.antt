pub mod Writing
pub mod Lines
pub mod Buses
pub mod Causes
pub mod Json
pub mod SupportBits
pub mod Picking
