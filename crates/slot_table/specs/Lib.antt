pub mod Lists
pub mod Mixing
pub mod Pairs
pub mod Placing
pub mod Probes
pub mod Stamps
